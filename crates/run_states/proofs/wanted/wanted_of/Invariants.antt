use Rattle.run_states.proofs.Wanting.{AreMarked}
use Rattle.run_states.proofs.wanted.wanted_of.Given as goal

abbrev pub invariant-loop-d : goal.invariant-loop-d
invariant-loop-d l = AreMarked l.plan l.preconditions l.wanted.items l.d
