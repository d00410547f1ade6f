-- The first whole inputs are what the first inputs told.
use Rattle.sched_core.proofs.WholeInputs.{AreAlike}
use Rattle.sched_core.proofs.whole_inputs.has_all_whole.Given as goal

abbrev pub invariant-loop-index : goal.invariant-loop-index
invariant-loop-index l = AreAlike l.plan.nodes l.d l.whole l.count l.index
