use Rattle.run_report.specs.private.Holding.{state_at}
use Rattle.run_report.proofs.Passing.{AreGood}
use Rattle.run_report.proofs.forecast.foretold.state_by_inputs.Given as goal

abbrev pub invariant-loop-input : goal.invariant-loop-input
invariant-loop-input l = AreGood (state_at l.earlier) l.inputs l.input-index
