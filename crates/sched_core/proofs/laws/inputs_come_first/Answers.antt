use Rattle.run_states.proofs.PlanInputs.{rows_in_order}
use Rattle.sched_core.proofs.laws.inputs_come_first.Goals as goal

pub returns : goal.returns
returns c = rows_in_order
