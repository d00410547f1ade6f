-- The walk has come so far, and each step passes a number that was left.
use Rattle.std.proofs.Common.{◌+◌, length}
use Rattle.std.specs.List.{sum_by}
use Rattle.build_outcome.specs.private.Reaching.{IsReaching, pending}
use Rattle.build_outcome.proofs.checks.reach.mark_from.Given as goal

abbrev pub invariant-loop-top : goal.invariant-loop-top
invariant-loop-top l = IsReaching l.links l.start l.marks l.left.items

abbrev pub decreases-loop-top : goal.decreases-loop-top
decreases-loop-top l = sum_by pending l.marks + length l.left.items
