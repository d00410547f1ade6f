-- Which registration is to blame where some can't be taken in, and the obstacle and the fault that
-- say so.
use Rattle.std.specs.Prelude.{◌≡◌, ℕ, List, Option, Some, None, slice_get}
use Rattle.nix_names.specs.Bytes.{Path}
use Rattle.valid_table.specs.Adding.{AreNew, IsFirstUnclosed, IsFirstValid}
use Rattle.valid_table.specs.declared.entry.Registration.{Registration}
use Rattle.valid_table.specs.declared.fault.TableFault.{TableFault}
use Rattle.valid_table.specs.declared.fault.TableFault.TheVariants.{Unclosed, AlreadyValid}
use Rattle.valid_table.specs.declared.path_table.obstacle.FaultAt.{FaultAt}
use Rattle.valid_table.specs.declared.path_table.obstacle.Obstacle.{Obstacle}
use Rattle.valid_table.specs.declared.path_table.obstacle.Obstacle.TheVariants as obstacle

-- a registration is blamed for its path, or for the reference at an index
abbrev pub IsBlamedFor : (known some : List Registration) → Registration → Option ℕ → Type 0
IsBlamedFor known some registration None = IsFirstValid known some registration.path
IsBlamedFor known some registration (Some index) =
    (path : Path) × (slice_get registration.info.references index ≡ Some path) × AreNew known some
    × IsFirstUnclosed known some path

-- which of some registrations is to blame, after known ones
abbrev pub IsBlamed : (known some : List Registration) → FaultAt → Type 0
IsBlamed known some blame =
    (registration : Registration) × (slice_get some blame.registration ≡ Some registration)
    × IsBlamedFor known some registration blame.reference

-- at these indices is the first reference of some registrations that is valid neither by known ones
-- nor by themselves
abbrev pub IsUnclosedAt : (known some : List Registration) → FaultAt → Type 0
IsUnclosedAt known some blame =
    (registration : Registration) × (index : ℕ) × (path : Path)
    × (slice_get some blame.registration ≡ Some registration) × (blame.reference ≡ Some index)
    × (slice_get registration.info.references index ≡ Some path) × IsFirstUnclosed known some path

-- the obstacle of a registration that is blamed for its path, or for the reference at an index
abbrev pub IsObstacleOf : Registration → Option ℕ → Obstacle → Type 0
IsObstacleOf registration None (obstacle.AlreadyValid path) = path.now ≡ registration.path
IsObstacleOf registration (Some index) (obstacle.Unclosed path) =
    slice_get registration.info.references index ≡ Some path.now
IsObstacleOf registration reference other = ⊥

-- the fault of such a registration
abbrev pub IsFaultOf : Registration → Option ℕ → TableFault → Type 0
IsFaultOf registration None (AlreadyValid path) = path ≡ registration.path
IsFaultOf registration (Some index) (Unclosed path) = slice_get registration.info.references index
    ≡ Some path
IsFaultOf registration reference other = ⊥
