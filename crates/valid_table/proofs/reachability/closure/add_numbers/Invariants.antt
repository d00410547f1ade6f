-- The first rows are added.
use Rattle.std.proofs.Common.{◌≡◌, take}
use Rattle.valid_table.specs.private.Closing.{AddsRows, paths_at}
use Rattle.valid_table.specs.Tables.{registrations_of}
use Rattle.valid_table.proofs.reachability.closure.add_numbers.Given as goal

abbrev pub invariant-loop-number : goal.invariant-loop-number
invariant-loop-number l = record {
  adds : AddsRows (registrations_of l.rows.entries) l.fn.found.rows
      (paths_at (registrations_of l.rows.entries) (take l.number-index l.numbers)) l.found.rows;
  room : l.found.room ≡ l.fn.found.room;
}
