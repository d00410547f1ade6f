-- *What was given*: the outcomes of a run, one for each derivation, decide how the run ends. One
-- thread whose builder gives the same outcomes ends alike. Nothing is asked of the builders (this
-- product's own).
use Rattle.std.specs.Prelude.{◌≡◌, ℕ, Result}
use Rattle.nix_names.specs.Bytes.{Bytes}
use Rattle.run_report.specs.Reports.{IsReportIn}
use Rattle.run_states.specs.Runs.{History, Run}
use Rattle.build_outcome.specs.declared.job.Answer.{Answer}
use Rattle.build_outcome.specs.declared.job.Job.{Job}
use Rattle.build_outcome.specs.declared.reason.Reason.{Reason}
use Rattle.store_run.specs.Builders.{IsAnswered}
use Rattle.store_run.specs.OneThread.{IsOneThread}
use Rattle.store_run.specs.Scheduling.{AreAlike, IsEndedRun}

-- a builder may give this outcome, and it is the outcome that is listed for the job's derivation
abbrev pub GivesEach : (may : Job → Result Answer Reason → Type 0)
    → (outcomes : ℕ → Result Answer Reason) → Job → Result Answer Reason → Type 0
GivesEach may outcomes job outcome = may job outcome × (outcome ≡ outcomes job.derivation)

-- These outcomes decide a run: the run was given them, and it ends as one thread that is given them
-- too. Each derivation is in the same state, each path has the same records, and the report is the
-- same. There is such a history of one thread.
pub record IsDecided (may : Job → Result Answer Reason → Type 0) (run : Run) (history : History)
    (outcomes : ℕ → Result Answer Reason)
    : Type 0 where
  pub given : IsAnswered (GivesEach may outcomes) run history
  pub alike : (other : History) → IsOneThread (GivesEach may outcomes) run history.opening other
      → AreAlike run history other
  pub report : (other : History) (a b : Bytes)
      → IsOneThread (GivesEach may outcomes) run history.opening other
      → IsReportIn run history a → IsReportIn run other b → a ≡ b
  pub thread : (other : History) × IsOneThread (GivesEach may outcomes) run history.opening other

-- what a run leaves behind at its end, where memory sufficed, is decided by outcomes that its
-- builders may give, one for each derivation
abbrev pub OutcomesDecide : (may : Job → Result Answer Reason → Type 0) → Type 0
OutcomesDecide may = (run : Run) (history : History) → IsEndedRun may run history
    → (outcomes : ℕ → Result Answer Reason) × IsDecided may run history outcomes

-- two such runs with the same opening are alike where each derivation is given the same outcome
abbrev pub EqualOutcomesAreAlike : (may : Job → Result Answer Reason → Type 0) → Type 0
EqualOutcomesAreAlike may = (run : Run) (history other : History)
    (outcomes : ℕ → Result Answer Reason) → IsEndedRun (GivesEach may outcomes) run history
    → IsEndedRun (GivesEach may outcomes) run other → other.opening ≡ history.opening
    → AreAlike run history other
