-- The numbers so far are marked.
use Rattle.std.proofs.Common.{take}
use Rattle.build_outcome.specs.private.Reaching.{MarksAll}
use Rattle.build_outcome.proofs.checks.reach.mark_all.Given as goal

abbrev pub invariant-loop-number : goal.invariant-loop-number
invariant-loop-number l = MarksAll (take l.number-index l.numbers) l.fn.marks l.marks
    l.fn.left.items l.left.items
