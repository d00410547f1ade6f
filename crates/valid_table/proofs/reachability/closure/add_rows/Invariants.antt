-- The rows of the paths so far are added.
use Rattle.std.proofs.Common.{◌≡◌, take}
use Rattle.valid_table.specs.private.Closing.{AddsRows}
use Rattle.valid_table.specs.Tables.{registrations_of}
use Rattle.valid_table.proofs.reachability.closure.add_rows.Given as goal

abbrev pub invariant-loop-path : goal.invariant-loop-path
invariant-loop-path l = record {
  adds : AddsRows (registrations_of l.rows.entries) l.fn.found.rows (take l.path-index l.paths)
      l.found.rows;
  room : l.found.room ≡ l.fn.found.room;
}
