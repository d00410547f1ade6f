-- The rows, and the registrations that are left after them, are all; there is room for those that
-- are left.
use Rattle.std.proofs.Common.{◌≡◌, ◌+◌, ◌++◌, ◌≤◌, length}
use Rattle.std.specs.Vec.Iter.{into_iter_items, into_iter_len}
use Rattle.indexmap.specs.IndexMap.{spare}
use Rattle.valid_table.specs.Tables.{registrations_of}
use Rattle.valid_table.proofs.path_table.rows.push_rows.Given as goal

abbrev pub invariant-loop-registration : goal.invariant-loop-registration
invariant-loop-registration l = record {
  all : registrations_of l.rows.entries ++ into_iter_items l.registration-iterator
      ≡ registrations_of l.fn.rows.entries ++ into_iter_items l.initial.registration-iterator;
  long : into_iter_len l.registration-iterator ≡ length (into_iter_items l.registration-iterator);
  room : length (into_iter_items l.registration-iterator) ≤ spare l.rows;
  used : spare l.fn.rows + length (into_iter_items l.registration-iterator) ≤ spare l.rows
      + length (into_iter_items l.initial.registration-iterator);
}
