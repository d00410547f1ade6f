-- *Any schedule*: whatever the number of workers and the order of their turns, a run with enough
-- memory ends as one thread would (this product's own).
use Rattle.std.specs.Prelude.{◌≡◌, ◌↔◌, ◌<◌, ℕ, List, Result, length}
use Rattle.nix_names.specs.Bytes.{Bytes, Path}
use Rattle.drv_graph.specs.Plans.{Graph}
use Rattle.drv_graph.specs.SoundGraphs.{IsSound}
use Rattle.valid_table.specs.Entries.{registered}
use Rattle.valid_table.specs.PathInfos.{PathInfo}
use Rattle.valid_table.specs.Valid.{Registers}
use Rattle.valid_table.specs.declared.entry.Entry.{Entry}
use Rattle.valid_table.specs.declared.entry.Registration.{Registration}
use Rattle.run_states.specs.StateTables.{IsRunSettled}
use Rattle.run_states.specs.Systems.{Platform}
use Rattle.sched_core.specs.Books.{Ledger}
use Rattle.build_outcome.specs.Jobs.{IsJob}
use Rattle.run_states.specs.Legal.{IsLegal}
use Rattle.run_report.specs.Reports.{IsReportIn}
use Rattle.run_states.specs.Runs.{History, IsWanted, Run, state_in}
use Rattle.build_outcome.specs.declared.job.Answer.{Answer}
use Rattle.build_outcome.specs.declared.job.Job.{Job}
use Rattle.build_outcome.specs.declared.reason.Reason.{Reason}
use Rattle.build_outcome.specs.declared.reason.Reason.TheVariants.{OutOfMemory}
use Rattle.run_states.specs.declared.state.State.TheVariants.{Failed}
use Rattle.store_run.specs.Builders.{IsAnswered, IsVerdictOn}
use Rattle.store_run.specs.OneThread.{IsOneThread}
use Rattle.store_run.specs.Realising.{IsRealised}

-- each derivation of a plan has one outcome: whatever paths are valid and permitted, the verdicts
-- on two outcomes that may be given for jobs of it are the same
abbrev pub HasOneOutcome : (may : Job → Result Answer Reason → Type 0) → Graph → Type 0
HasOneOutcome may graph = (d : ℕ) (job again : Job) (registrations : List Registration)
    (permitted : List Path) (x y : Result Answer Reason) (a b : Result (List PathInfo) Reason)
    → IsJob graph d job → IsJob graph d again → may job x → may again y
    → IsVerdictOn registrations job permitted x a
    → IsVerdictOn registrations again permitted y b → a ≡ b

-- no wanted derivation failed because memory was refused
abbrev pub HasMemory : Run → History → Type 0
HasMemory run history = (d : ℕ) → d < length run.graph.nodes → IsWanted run history.opening d
    → state_in run history d ≡ Failed OutOfMemory → ⊥

-- Two histories of a run are alike: each derivation is in the same state, and each path has the
-- same records.
pub record AreAlike (run : Run) (history other : History) : Type 0 where
  pub states : (d : ℕ) → state_in run history d ≡ state_in run other d
  pub records : (path : Path) (info : PathInfo)
      → Registers (registered history.entries) path info
      ↔ Registers (registered other.entries) path info

-- What a run over a loaded plan leaves behind at its end, where memory sufficed, whatever its
-- builders gave.
pub record IsEndedRun (may : Job → Result Answer Reason → Type 0) (run : Run) (history : History)
    : Type 0 where
  pub plan : IsSound run.graph
  pub legal : IsLegal run history
  pub settled : IsRunSettled run history
  pub answered : IsAnswered may run history
  pub memory : HasMemory run history

-- What such a run leaves behind where its builders may give one outcome to each derivation.
pub record IsWholeRun (may : Job → Result Answer Reason → Type 0) (run : Run) (history : History)
    : Type 0 where
  pub end : IsEndedRun may run history
  pub outcome : HasOneOutcome may run.graph

-- what `realise` leaves behind at `Ok` is an ended run, over a loaded plan, where memory was not
-- refused
abbrev pub RealisedIsEnded : (may : Job → Result Answer Reason → Type 0) → Type 0
RealisedIsEnded may = (plan : Graph) (system : Platform) (opening : List Entry) (count : ℕ)
    (book : Ledger) → IsSound plan → IsRealised may plan system opening count book
    → HasMemory book.run book.history → IsEndedRun may book.run book.history

-- and it is a whole run, where the builders may give one outcome to each derivation
abbrev pub RealisedIsWhole : (may : Job → Result Answer Reason → Type 0) → Type 0
RealisedIsWhole may = (plan : Graph) (system : Platform) (opening : List Entry) (count : ℕ)
    (book : Ledger) → IsSound plan → HasOneOutcome may plan
    → IsRealised may plan system opening count book → HasMemory book.run book.history
    → IsWholeRun may book.run book.history

-- two whole runs with the same opening are alike
abbrev pub WholeRunsAreAlike : (may : Job → Result Answer Reason → Type 0) → Type 0
WholeRunsAreAlike may = (run : Run) (history other : History) → IsWholeRun may run history
    → IsWholeRun may run other → other.opening ≡ history.opening → AreAlike run history other

-- alike histories with the same opening have the same reports
abbrev pub AlikeReportTheSame : Type 0
AlikeReportTheSame = (run : Run) (history other : History) → AreAlike run history other
    → other.opening ≡ history.opening
    → (text : Bytes) → IsReportIn run history text ↔ IsReportIn run other text

-- *Any schedule*: the history of a whole run is alike with that of one thread with the same opening
abbrev pub AnySchedule : (may : Job → Result Answer Reason → Type 0) → Type 0
AnySchedule may = (run : Run) (history other : History) → IsWholeRun may run history
    → IsOneThread may run history.opening other → AreAlike run history other

-- to each whole run there is a history of one thread with the same opening
abbrev pub HasOneThread : (may : Job → Result Answer Reason → Type 0) → Type 0
HasOneThread may = (run : Run) (history : History) → IsWholeRun may run history
    → (other : History) × IsOneThread may run history.opening other

-- a whole run and one thread have the same report
abbrev pub OneReport : (may : Job → Result Answer Reason → Type 0) → Type 0
OneReport may = (run : Run) (history other : History) (a b : Bytes) → IsWholeRun may run history
    → IsOneThread may run history.opening other
    → IsReportIn run history a → IsReportIn run other b → a ≡ b

-- a text is a report of the whole run exactly where it is a report of the one thread
abbrev pub SameReports : (may : Job → Result Answer Reason → Type 0) → Type 0
SameReports may = (run : Run) (history other : History) → IsWholeRun may run history
    → IsOneThread may run history.opening other
    → (text : Bytes) → IsReportIn run history text ↔ IsReportIn run other text
