use Rattle.run_report.proofs.Foretelling.{forecasts_are_closed}
use Rattle.run_report.proofs.laws.forecasts_are_closed.Goals as goal

pub returns : goal.returns
returns c = forecasts_are_closed
