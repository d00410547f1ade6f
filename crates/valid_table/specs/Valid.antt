-- *Valid*: which paths a list of registrations makes valid, and what it says of them (Dolstra's
-- thesis, section 5.5).
use Rattle.std.specs.Prelude.{List, [], ◌∷◌, ◌++◌, nat_eq, flat_map, All, Contains}
use Rattle.std.specs.List.{IsDistinct}
use Rattle.std.specs.Cmp.Lexicographic.{pointwise}
use Rattle.nix_names.specs.Bytes.{Path}
use Rattle.nix_names.specs.StorePaths.{IsDrvPath}
use Rattle.valid_table.specs.PathInfos.{PathInfo}
use Rattle.valid_table.specs.Entries.{registered, registered_by, paths_registered}
use Rattle.valid_table.specs.declared.entry.Entry.{Entry}
use Rattle.valid_table.specs.declared.entry.Entry.TheVariants.{Add, Done}
use Rattle.valid_table.specs.declared.entry.Registration.{Registration}

-- a path is registered with this record
abbrev pub Registers : List Registration → Path → PathInfo → Type 0
Registers registrations path info = Contains registrations (record { path = path; info = info })

-- a path is valid: it is registered
abbrev pub IsValid : List Registration → Path → Type 0
IsValid registrations path = Contains (paths_registered registrations) path

-- a path is not valid
abbrev pub IsNotValid : List Registration → Path → Type 0
IsNotValid registrations path = IsValid registrations path → ⊥

-- a path is a reference of a registered one
abbrev pub RefersTo : List Registration → (path next : Path) → Type 0
RefersTo registrations path next = (info : PathInfo) × Registers registrations path info
    × Contains info.references next

-- the references of some registrations, in their order
abbrev pub references_of : List Registration → List Path
references_of registrations = flat_map (λ (r : Registration). r.info.references) registrations

-- each reference of a valid path is valid
abbrev pub AreReferencesValid : List Registration → Type 0
AreReferencesValid registrations = All (IsValid registrations) (references_of registrations)

-- *Closed*, after the registrations of earlier entries: each reference in an entry is registered
-- by an earlier entry or by the same one
abbrev pub IsClosedAfter : List Registration → List Entry → Type 0
IsClosedAfter earlier [] = Unit {0}
IsClosedAfter earlier (entry ∷ entries) =
    All (IsValid (earlier ++ registered_by entry)) (references_of (registered_by entry))
    × IsClosedAfter (earlier ++ registered_by entry) entries

-- *Closed*: each reference in an entry is registered by an earlier entry or by the same one
abbrev pub IsClosed : List Entry → Type 0
IsClosed entries = IsClosedAfter [] entries

-- an entry's deriver, if it has one, is the path of a derivation's file
abbrev pub HasDrvPath : Entry → Type 0
HasDrvPath (Add registration) = Unit {0}
HasDrvPath (Done deriver outputs) = IsDrvPath deriver

-- no path is registered twice
abbrev pub IsOnce : List Registration → Type 0
IsOnce registrations = IsDistinct (pointwise nat_eq) (paths_registered registrations)

-- What holds of each journal: it is closed, registers no path twice, and each deriver is the path
-- of a derivation's file.
pub record IsJournal (entries : List Entry) : Type 0 where
  pub closed : IsClosed entries
  pub once : IsOnce (registered entries)
  pub derived : All HasDrvPath entries
