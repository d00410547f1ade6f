-- What a source over a folder's files may answer for a path.
use Rattle.std.specs.Prelude.{◌≤◌, length, Ok, Err}
use Rattle.nix_drv.specs.Sources.{Answer}

-- Nothing is known of the files: a path may be missing, fail, or give any bytes. A source hands
-- over at most the first 4194305 bytes.
abbrev pub may_give : Answer → Type 0
may_give (Ok bytes) = length bytes ≤ 4194305
may_give (Err fault) = Unit {0}
