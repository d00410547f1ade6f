use Rattle.run_report.proofs.NamedPaths.{one_report_in}
use Rattle.sched_core.proofs.laws.report_is_one.Goals as goal

pub returns : goal.returns
returns c = one_report_in
