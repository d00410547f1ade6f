-- The first inputs told these.
use Rattle.std.proofs.Common.{map}
use Rattle.build_outcome.specs.Jobs.{shown_whole}
use Rattle.sched_core.proofs.WholeInputs.{ToldFirst}
use Rattle.sched_core.proofs.whole_inputs.all_whole.Given as goal

abbrev pub invariant-loop-index : goal.invariant-loop-index
invariant-loop-index l = ToldFirst l.plan.nodes l.d (map shown_whole l.whole.items) l.index
