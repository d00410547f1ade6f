-- What contracts see of a table and of a journal.
use Rattle.std.specs.Prelude.{ℕ, List, map}
use Rattle.nix_names.specs.Bytes.{Path}
use Rattle.valid_table.specs.PathInfos.{PathInfo}
use Rattle.valid_table.specs.declared.entry.Entry.{Entry}
use Rattle.valid_table.specs.declared.entry.Registration.{Registration}

-- What was registered, in its order, and how many more paths can be registered without taking
-- memory.
pub record TableValue : Type 0 where
  pub registrations : List Registration
  pub room : ℕ

-- The entries of a journal, in their order, and how many more paths they can register without
-- taking memory.
pub record JournalValue : Type 0 where
  pub entries : List Entry
  pub room : ℕ

-- rows as registrations
abbrev pub registrations_of : List (Path × PathInfo) → List Registration
registrations_of rows = map (λ (row : Path × PathInfo). record { path = row.0; info = row.1 })
    rows
