use Rattle.std.proofs.Common.{take}
use Rattle.run_states.proofs.Wanting.{Marks}
use Rattle.run_states.proofs.wanted.mark.Given as goal

abbrev pub invariant-loop-number : goal.invariant-loop-number
invariant-loop-number l = Marks l.fn.wanted l.wanted (take l.number-index l.numbers)
