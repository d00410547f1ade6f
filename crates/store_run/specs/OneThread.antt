-- *One thread*: a run in which each derivation has its turn, in plan order, and at most one lease
-- is open at a time (this product's own).
use Rattle.std.specs.Prelude.{◌≡◌, ℕ, zero, suc, Some, List, Result, Ok, Err, length, slice_get}
use Rattle.drv_graph.specs.Nodes.{Node}
use Rattle.valid_table.specs.PathInfos.{PathInfo}
use Rattle.valid_table.specs.Valid.{IsJournal}
use Rattle.valid_table.specs.declared.entry.Entry.{Entry}
use Rattle.run_states.specs.StateTables.{CanBegin}
use Rattle.run_states.specs.Runs.{opened}
use Rattle.run_states.specs.Legal.{IsEntryOf, begins, begun, ended, failed}
use Rattle.run_states.specs.Runs.{History, Run}
use Rattle.build_outcome.specs.declared.job.Answer.{Answer}
use Rattle.build_outcome.specs.declared.job.Job.{Job}
use Rattle.build_outcome.specs.declared.reason.Reason.{Reason}
use Rattle.store_run.specs.Builders.{IsVerdictAfter}

-- The derivations below a number had their turns, in plan order. Each derivation that could begin
-- at its turn began, and ended at once by the verdict on what a builder may give for it.
pub data HadTurns (may : Job → Result Answer Reason → Type 0) (run : Run) (opening : List Entry)
    : ℕ → History → Type 0 where
  turn_opening : IsJournal opening → HadTurns may run opening zero (opened opening)
  turn_skipped : (d : ℕ) (history : History) → HadTurns may run opening d history
      → (CanBegin run history d → ⊥) → HadTurns may run opening (suc d) history
  turn_done : (d : ℕ) (history : History) (node : Node) (infos : List PathInfo) (entry : Entry)
      → HadTurns may run opening d history → CanBegin run history d
      → slice_get run.graph.nodes d ≡ Some node
      → IsVerdictAfter may run history.entries d (Ok infos) → IsEntryOf node infos entry
      → HadTurns may run opening (suc d) (ended (begun history d) d (begins history.events) entry)
  turn_failed : (d : ℕ) (history : History) (reason : Reason)
      → HadTurns may run opening d history → CanBegin run history d
      → IsVerdictAfter may run history.entries d (Err reason)
      → HadTurns may run opening (suc d) (failed (begun history d) d (begins history.events) reason)

-- *One thread*: a history in which all derivations of the plan had their turns
abbrev pub IsOneThread : (may : Job → Result Answer Reason → Type 0) → Run → List Entry → History
    → Type 0
IsOneThread may run opening history = HadTurns may run opening (length run.graph.nodes) history
