use Rattle.run_states.proofs.Registering.{dones_are_allowed}
use Rattle.sched_core.proofs.laws.what_was_built_was_allowed.Goals as goal

pub returns : goal.returns
returns c = dones_are_allowed
