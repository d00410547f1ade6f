-- Paths that are looked up among known ones.
use Rattle.std.specs.Prelude.{◌≡◌, ◌≤◌, ℕ, Bool, true, false, List, [], ◌∷◌, ◌++◌, All, Contains, IfSome, length, slice_get, take}
use Rattle.nix_names.specs.Bytes.{Path}
use Rattle.nix_names.specs.Firsts.{IsFirst}
use Rattle.valid_table.specs.Entries.{paths_registered}
use Rattle.valid_table.specs.Valid.{IsNotValid, IsValid}
use Rattle.valid_table.specs.declared.entry.Registration.{Registration}

-- a path isn't known
abbrev pub IsNotKnown : (known : List Path) → Path → Type 0
IsNotKnown known path = Contains known path → ⊥

-- none of some paths is known
abbrev pub AreUnknown : (known paths : List Path) → Type 0
AreUnknown known paths = All (IsNotKnown known) paths

-- The first `count` paths are new, and the next one, if any, is known.
pub record IsNewPrefix (known paths : List Path) (count : ℕ) : Type 0 where
  pub within : count ≤ length paths
  pub new : AreUnknown known (take count paths)
  pub next : IfSome (slice_get paths count) (Contains known)

-- the first of some paths that isn't known stands at this index, counted from 0
abbrev pub IsFirstUnknownAt : (known paths : List Path) → ℕ → Type 0
IsFirstUnknownAt known paths at =
    (path : Path) × (first : IsFirst (Contains known) (IsNotKnown known) paths path)
    × (at ≡ length first.before)

-- A registration is put among others: in the place of the one with its path, if there is one, and
-- else after them. `had` says whether there was one.
abbrev pub IsPut : (old new : List Registration) → Registration → (had : Bool) → Type 0
IsPut old new r true = IsValid old r.path × (paths_registered new ≡ paths_registered old)
IsPut old new r false = IsNotValid old r.path × (new ≡ old ++ r ∷ [])
