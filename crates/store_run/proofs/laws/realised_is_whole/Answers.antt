use Rattle.store_run.proofs.Schedules.{realised_is_ended, realised_is_whole}
use Rattle.store_run.proofs.laws.realised_is_whole.Goals as goal

pub returns-clause-ended : goal.returns-clause-ended
returns-clause-ended g c = realised_is_ended g.B.Build.may

pub returns-clause-whole : goal.returns-clause-whole
returns-clause-whole g c = realised_is_whole g.B.Build.may
