use Rattle.run_report.proofs.Spared.{states_come_true}
use Rattle.run_report.proofs.Telling.{reports_come_true, whole_comes_true}
use Rattle.run_report.proofs.laws.forecast_comes_true.Goals as goal

pub returns-clause-states : goal.returns-clause-states
returns-clause-states c = states_come_true

pub returns-clause-reports : goal.returns-clause-reports
returns-clause-reports c = reports_come_true

pub returns-clause-whole : goal.returns-clause-whole
returns-clause-whole c = whole_comes_true
