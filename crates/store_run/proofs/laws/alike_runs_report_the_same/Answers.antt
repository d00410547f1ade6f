use Rattle.store_run.proofs.Schedules.{alike_report_the_same}
use Rattle.store_run.proofs.laws.alike_runs_report_the_same.Goals as goal

pub returns : goal.returns
returns c = alike_report_the_same
