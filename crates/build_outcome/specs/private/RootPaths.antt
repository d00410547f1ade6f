-- The paths that marks of the outputs' paths tell.
use Rattle.std.specs.Prelude.{◌≡◌, ◌↔◌, ◌⊎◌, ◌<◌, ℕ, List, Bool, Some, Contains, slice_get}
use Rattle.nix_names.specs.Bytes.{Path}
use Rattle.valid_table.specs.PathInfos.{PathInfo}
use Rattle.build_outcome.specs.private.Reaching.{IsMarked}

-- a path is a key whose index is marked
abbrev pub IsMetPath : (keys : List Path) → List Bool → Path → Type 0
IsMetPath keys marks path = (index : ℕ) × (slice_get keys index ≡ Some path) × IsMarked marks index

-- the new paths are the old ones, and those references that are no keys
abbrev pub AddsOutside : (keys references : List Path) → (old new : List Path) → Type 0
AddsOutside keys references old new = (path : Path) → Contains new path
    ↔ (Contains old path ⊎ (Contains references path × (Contains keys path → ⊥)))

-- one of the first `count` outputs is met, and refers to a path that is no key
abbrev pub RefersOut : (outputs : List Path) → List PathInfo → (keys : List Path) → List Bool
    → (count : ℕ) → Path → Type 0
RefersOut outputs infos keys marks count path = (n : ℕ) × (output : Path) × (info : PathInfo)
    × (n < count) × (slice_get outputs n ≡ Some output) × (slice_get infos n ≡ Some info)
    × IsMetPath keys marks output × Contains info.references path
    × (Contains keys path → ⊥)
