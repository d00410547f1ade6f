-- *Closure*: all that some paths lead to by references (Dolstra's thesis, section 5.5; Nix manual,
-- "Store Object").
use Rattle.std.specs.Prelude.{◌≡◌, ◌↔◌, ◌++◌, List, [], ◌∷◌, All, Contains, Result, Ok, Err}
use Rattle.std.specs.Global.{Vec}
use Rattle.nix_names.specs.Bytes.{Path}
use Rattle.nix_names.specs.Rising.{IsRising}
use Rattle.valid_table.specs.Entries.{registered}
use Rattle.valid_table.specs.Valid.{IsClosed, IsNotValid, IsOnce, IsValid, RefersTo}
use Rattle.valid_table.specs.declared.entry.Entry.{Entry}
use Rattle.valid_table.specs.declared.entry.Registration.{Registration}
use Rattle.valid_table.specs.declared.fault.TableFault.{TableFault}
use Rattle.valid_table.specs.declared.fault.TableFault.TheVariants.{NoMemory, NotValid}
use Rattle.nix_names.specs.Firsts.{IsFirst}

-- steps lead from one valid path to another: each step is a reference of the path before it
abbrev pub LeadsByReferences : List Registration → (from to : Path) → (steps : List Path) → Type 0
LeadsByReferences registrations from to [] = IsValid registrations from × (from ≡ to)
LeadsByReferences registrations from to (next ∷ steps) = RefersTo registrations from next
    × LeadsByReferences registrations next to steps

-- a path reaches another: some steps lead to it
abbrev pub Reaches : List Registration → (from to : Path) → Type 0
Reaches registrations from to = (steps : List Path) × LeadsByReferences registrations from to steps

-- The closure of some paths, in rising order: just what one of them reaches.
pub record IsClosure (registrations : List Registration) (roots all : List Path) : Type 0 where
  pub rising : IsRising all
  pub each : (path : Path) → Contains all path
      ↔ ((root : Path) × Contains roots root × Reaches registrations root path)

-- what is answered where the closure of some roots is asked for
abbrev pub IsClosing : List Registration → (roots : List Path) → Result (Vec Path) TableFault
    → Type 0
IsClosing registrations roots (Ok all) = All (IsValid registrations) roots
    × IsClosure registrations roots all.items
IsClosing registrations roots (Err (NotValid path)) =
    IsFirst (IsValid registrations) (IsNotValid registrations) roots path
IsClosing registrations roots (Err NoMemory) = Unit {0}
IsClosing registrations roots (Err other) = ⊥

-- the closure of paths that are valid in a closed list stays the same in each list of entries that
-- begins with it
abbrev pub ClosureStays : Type 0
ClosureStays = (entries more : List Entry) (roots all : List Path) → IsClosed entries
    → IsClosed (entries ++ more)
    → IsOnce (registered (entries ++ more)) → All (IsValid (registered entries)) roots
    → IsClosure (registered entries) roots all → IsClosure (registered (entries ++ more)) roots all

-- some paths have at most one closure
abbrev pub ClosureIsOne : Type 0
ClosureIsOne = (registrations : List Registration) (roots a b : List Path)
    → IsClosure registrations roots a → IsClosure registrations roots b → a ≡ b
