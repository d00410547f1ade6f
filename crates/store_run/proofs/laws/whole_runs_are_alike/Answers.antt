use Rattle.store_run.proofs.Schedules.{whole_runs_are_alike}
use Rattle.store_run.proofs.laws.whole_runs_are_alike.Goals as goal

pub returns : goal.returns
returns g c = whole_runs_are_alike g.B.Build.may
