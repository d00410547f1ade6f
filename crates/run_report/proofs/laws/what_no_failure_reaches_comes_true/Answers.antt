use Rattle.run_report.proofs.Spared.{spared_come_true}
use Rattle.run_report.proofs.laws.what_no_failure_reaches_comes_true.Goals as goal

pub returns : goal.returns
returns c = spared_come_true
