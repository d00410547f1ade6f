use Rattle.std.proofs.Common.{◌≡◌, false, length}
use Rattle.nix_drv.specs.private.Reading.{before, bytes_at}
use Rattle.nix_drv.proofs.reading.spelled_of.Given as goal

-- the bytes so far and those of the rest are those of the string
abbrev pub invariant-bytes : goal.invariant-bytes
invariant-bytes l = before l.value.items (bytes_at false l.rest) ≡ bytes_at false l.bytes

abbrev pub decreases-bytes : goal.decreases-bytes
decreases-bytes l = length l.rest
