use Rattle.store_run.proofs.SameOutcomes.{allowed_is_one}
use Rattle.store_run.proofs.laws.allowed_outcomes_are_one.Goals as goal

pub returns : goal.returns
returns g c = allowed_is_one g.B.Build.may
