use Rattle.store_run.proofs.Schedules.{any_schedule, one_report_of, same_reports}
use Rattle.store_run.proofs.laws.any_schedule.Goals as goal

pub returns-clause-alike : goal.returns-clause-alike
returns-clause-alike g c = any_schedule g.B.Build.may

pub returns-clause-report : goal.returns-clause-report
returns-clause-report g c = one_report_of g.B.Build.may

pub returns-clause-same : goal.returns-clause-same
returns-clause-same g c = same_reports g.B.Build.may
