use Rattle.std.proofs.Common.{length, reverse}
use Rattle.sched_core.proofs.UnitedPaths.{IsUniting}
use Rattle.sched_core.proofs.union.union_of.Given as goal

abbrev pub invariant-loop-path : goal.invariant-loop-path
invariant-loop-path l = IsUniting l.fn.paths.items l.fn.others.items l.below.items l.left.items
    (reverse l.above.items)

abbrev pub decreases-loop-path : goal.decreases-loop-path
decreases-loop-path l = length l.left.items
