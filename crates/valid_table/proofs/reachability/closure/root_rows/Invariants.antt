-- The roots so far are valid, and their rows are found.
use Rattle.std.proofs.Common.{◌≤◌, All, [], length, take}
use Rattle.valid_table.specs.private.Closing.{AddsRows}
use Rattle.valid_table.specs.Tables.{registrations_of}
use Rattle.valid_table.specs.Valid.{IsValid}
use Rattle.valid_table.proofs.reachability.closure.root_rows.Given as goal

abbrev pub invariant-loop-root : goal.invariant-loop-root
invariant-loop-root l = record {
  valid : All (IsValid (registrations_of l.rows.entries)) (take l.root-index l.roots);
  added : AddsRows (registrations_of l.rows.entries) [] (take l.root-index l.roots) l.found.rows;
  room : length l.rows.entries ≤ l.found.room;
}
