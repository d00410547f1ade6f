-- The first outputs are named.
use Rattle.sched_core.proofs.WholeInputs.{AreFirstNamed}
use Rattle.sched_core.proofs.whole_inputs.is_whole.Given as goal

abbrev pub invariant-loop-output : goal.invariant-loop-output
invariant-loop-output l = AreFirstNamed l.drv.inputs l.index l.output-items l.output-index
