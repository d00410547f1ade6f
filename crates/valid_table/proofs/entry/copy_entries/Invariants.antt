-- The entries that were copied are the first ones.
use Rattle.std.proofs.Common.{◌≡◌, length, take, vec_capacity}
use Rattle.valid_table.proofs.entry.copy_entries.Given as goal

abbrev pub invariant-loop-entry : goal.invariant-loop-entry
invariant-loop-entry l = record {
  items : l.copied.items ≡ take l.entry-index l.entries;
  room : vec_capacity l.copied ≡ length l.entries;
}
