use Rattle.store_run.proofs.GivenOutcomes.{outcomes_decide}
use Rattle.store_run.proofs.laws.outcomes_decide.Goals as goal

pub returns : goal.returns
returns g c = outcomes_decide g.B.Build.may
