-- The numbers so far are those of the first paths.
use Rattle.std.proofs.Common.{◌≡◌, length, take, vec_capacity}
use Rattle.valid_table.specs.private.Linking.{AreRowsOf}
use Rattle.valid_table.specs.Tables.{registrations_of}
use Rattle.valid_table.proofs.reachability.links.reference_rows.Given as goal

abbrev pub invariant-loop-path : goal.invariant-loop-path
invariant-loop-path l = record {
  rows : AreRowsOf (registrations_of l.rows.entries) (take l.path-index l.paths) l.numbers.items;
  count : length l.numbers.items ≡ l.path-index;
  room : vec_capacity l.numbers ≡ length l.paths;
}
