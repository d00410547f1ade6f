-- Those of the rows so far that are late are added, each after its key.
use Rattle.std.proofs.Common.{◌≡◌, ◌++◌, nat_lt, not, take}
use Rattle.std.specs.List.{filter}
use Rattle.valid_table.specs.private.FirstRows.{rows_of_keyed}
use Rattle.valid_table.specs.private.Keys.{AreKeyed}
use Rattle.valid_table.specs.Tables.{registrations_of}
use Rattle.valid_table.proofs.path_table.sort_paths.push_late.Given as goal

abbrev pub invariant-loop-row : goal.invariant-loop-row
invariant-loop-row l = record {
  rows : rows_of_keyed l.keyed.items ≡ rows_of_keyed l.fn.keyed.items
      ++ filter (λ row. not (nat_lt row l.first)) (take l.row-index l.found.rows);
  keys : AreKeyed (registrations_of l.rows.entries) l.keyed.items;
}
