-- *Shown*: the entries that an outlet shows, and those that wait to be published.
use Rattle.std.specs.Prelude.{◌≡◌, ℕ, List, length}
use Rattle.valid_table.specs.declared.entry.Entry.{Entry}

-- The entries of an outlet, in their order: shown ones, then pending ones.
pub record Outgoing : Type 0 where
  pub shown : List Entry
  pub pending : List Entry

-- a number names each list of entries that has this length
abbrev pub CountsEntries : ℕ → List Entry → Type 0
CountsEntries count entries = count ≡ length entries
