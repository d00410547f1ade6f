use Rattle.run_report.proofs.Foretelling.{forecasts_agree, forecasts_are_one}
use Rattle.run_report.proofs.laws.forecasts_solve_the_table.Goals as goal

pub returns-clause-agree : goal.returns-clause-agree
returns-clause-agree c = forecasts_agree

pub returns-clause-one : goal.returns-clause-one
returns-clause-one c = forecasts_are_one
