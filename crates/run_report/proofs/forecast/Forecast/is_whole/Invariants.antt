use Rattle.run_report.specs.Forecasts.{foretold}
use Rattle.run_report.proofs.Passing.{AreGood}
use Rattle.run_report.proofs.forecast.Forecast.is_whole.Given as goal

-- the roots so far are built or reused
abbrev pub invariant-roots : goal.invariant-roots
invariant-roots l = AreGood (foretold l.self.run l.self.entries) l.root-items l.root-index
