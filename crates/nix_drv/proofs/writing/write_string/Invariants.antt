use Rattle.std.proofs.Common.{◌≡◌, ◌++◌, ◌∷◌, length}
use Rattle.std.specs.List.{flat_map}
use Rattle.nix_drv.specs.Strings.{spelling}
use Rattle.nix_drv.proofs.writing.write_string.Given as goal

-- what is written, and the spellings of the bytes that are left
abbrev pub invariant-runs : goal.invariant-runs
invariant-runs l = l.out.items ++ flat_map spelling l.rest ≡ l.fn.out.items
    ++ (34 ∷ flat_map spelling l.bytes)

abbrev pub decreases-runs : goal.decreases-runs
decreases-runs l = length l.rest
