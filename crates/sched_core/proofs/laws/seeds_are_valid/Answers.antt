use Rattle.run_states.proofs.Seeds.{seeds_are_valid}
use Rattle.sched_core.proofs.laws.seeds_are_valid.Goals as goal

pub returns : goal.returns
returns c = seeds_are_valid
