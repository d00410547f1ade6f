-- The key of a store path: a number that orders the paths of one folder, but for those with equal
-- keys.
use Rattle.std.specs.Prelude.{ℕ, take}
use Rattle.std.specs.Int.{from_be_bytes, w64}
use Rattle.nix_names.specs.Bytes.{Path}
use Rattle.nix_names.specs.StorePaths.{hash_part_of}

-- a path's key: the first eight characters of its hash part as one number, of which the first
-- counts most
abbrev pub key_of : Path → ℕ
key_of text = from_be_bytes w64 (take 8 (hash_part_of text))
