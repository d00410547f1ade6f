use Rattle.run_states.proofs.Seeds.{permitted_stays}
use Rattle.sched_core.proofs.laws.permitted_stays.Goals as goal

pub returns : goal.returns
returns c = permitted_stays
