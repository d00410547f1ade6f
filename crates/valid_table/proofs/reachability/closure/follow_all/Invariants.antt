-- The first rows are followed; there are at most as many rows as the table has.
use Rattle.std.proofs.Common.{◌≤◌, ◌-◌, length}
use Rattle.valid_table.specs.private.Closing.{IsFollowed}
use Rattle.valid_table.specs.Tables.{registrations_of}
use Rattle.valid_table.proofs.reachability.closure.follow_all.Given as goal

abbrev pub invariant-loop-next : goal.invariant-loop-next
invariant-loop-next l = record {
  followed : IsFollowed (registrations_of l.rows.entries) l.fn.found.rows l.found.rows l.next;
  room : length l.rows.entries ≤ l.found.room;
}

abbrev pub decreases-loop-next : goal.decreases-loop-next
decreases-loop-next l = length (registrations_of l.rows.entries) - l.next
