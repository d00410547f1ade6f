-- The rows so far are the first ones, each after its key.
use Rattle.std.proofs.Common.{◌≡◌, length}
use Rattle.valid_table.specs.private.FirstRows.{AreFirst, rows_of_keyed}
use Rattle.valid_table.specs.private.Keys.{AreKeyed}
use Rattle.valid_table.specs.Tables.{registrations_of}
use Rattle.valid_table.proofs.path_table.order.RowOrder.take_in.Given as goal

abbrev pub invariant-loop-row : goal.invariant-loop-row
invariant-loop-row l = record {
  first : AreFirst (length l.rows.entries) (rows_of_keyed l.self.keyed.items);
  keys : AreKeyed (registrations_of l.rows.entries) l.self.keyed.items;
  next : length l.self.keyed.items ≡ l.row;
}
