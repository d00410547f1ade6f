use Rattle.std.proofs.Common.{drop}
use Rattle.ref_scan.proofs.Rooms.{Counting}
use Rattle.ref_scan.proofs.tree.Tree.+room_beside.Given as goal

abbrev pub decreases-room_beside : goal.decreases-room_beside
decreases-room_beside l = goal.size-room_beside l

abbrev pub invariant-loop-entry : goal.invariant-loop-entry
invariant-loop-entry l = Counting l.below l.fn.room l.left l.self (drop l.entry-index l.entry-items)
