use Rattle.run_states.proofs.Wanting.{wanted_told}
use Rattle.sched_core.proofs.laws.wanted_is_told.Goals as goal

pub returns : goal.returns
returns c = wanted_told
