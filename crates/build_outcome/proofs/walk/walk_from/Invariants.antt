-- The walk stands at its trail's last, and the start was met; each step passes a link, or enters or
-- leaves a number.
use Rattle.std.proofs.Common.{◌+◌, length}
use Rattle.std.specs.List.{sum_by}
use Rattle.build_outcome.specs.private.Walking.{IsMet, IsWalk, KeepsMet, weight}
use Rattle.build_outcome.proofs.walk.walk_from.Given as goal

abbrev pub invariant-loop-top : goal.invariant-loop-top
invariant-loop-top l = record {
  walk : IsWalk l.links l.nodes l.trail.items;
  keeps : KeepsMet l.fn.nodes l.nodes;
  met : IsMet l.nodes l.start;
}

abbrev pub decreases-loop-top : goal.decreases-loop-top
decreases-loop-top l = sum_by weight l.nodes + length l.trail.items
