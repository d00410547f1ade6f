-- Entries of a journal, and the paths that they register.
use Rattle.std.specs.Prelude.{List, [], ◌∷◌, flat_map, map, IsPermutation}
use Rattle.nix_names.specs.Bytes.{Path}
use Rattle.nix_names.specs.Rising.{IsRising}
use Rattle.valid_table.specs.declared.entry.Entry.{Entry}
use Rattle.valid_table.specs.declared.entry.Entry.TheVariants.{Add, Done}
use Rattle.valid_table.specs.declared.entry.Registration.{Registration}

-- what one entry registers: paths with their records
abbrev pub registered_by : Entry → List Registration
registered_by (Add registration) = registration ∷ []
registered_by (Done deriver outputs) = outputs

-- what a list of entries registers, in its order
abbrev pub registered : List Entry → List Registration
registered entries = flat_map registered_by entries

-- the paths of some registrations
abbrev pub paths_registered : List Registration → List Path
paths_registered registrations = map (λ (r : Registration). r.path) registrations

-- A list has the same registrations as another, in rising order by path.
pub record IsSortedOf (some sorted : List Registration) : Type 0 where
  pub same : IsPermutation some sorted
  pub rising : IsRising (paths_registered sorted)
