use Rattle.store_run.proofs.GivenOutcomes.{equal_outcomes_are_alike}
use Rattle.store_run.proofs.laws.equal_outcomes_are_alike.Goals as goal

pub returns : goal.returns
returns g c = equal_outcomes_are_alike g.B.Build.may
