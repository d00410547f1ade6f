-- *Any interruption*: a run that was cut, and started again over what it had registered, ends as
-- one run ends that was not cut, given what the builders gave. Nothing is asked of the builders
-- (this product's own).
use Rattle.std.specs.Prelude.{◌≡◌, ◌⊎◌, ◌↔◌, ℕ, Some, Result, filter, flat_map, slice_get, true, Contains}
use Rattle.nix_names.specs.Bytes.{Bytes, Path}
use Rattle.drv_graph.specs.Nodes.{Node}
use Rattle.drv_graph.specs.PlanNodes.{output_paths_of}
use Rattle.drv_graph.specs.Plans.{AreTwins, Graph}
use Rattle.drv_graph.specs.SoundGraphs.{IsSound}
use Rattle.valid_table.specs.Entries.{registered}
use Rattle.valid_table.specs.PathInfos.{PathInfo}
use Rattle.valid_table.specs.Valid.{Registers}
use Rattle.run_states.specs.Legal.{IsLegal}
use Rattle.run_states.specs.Runs.{History, IsWanted, Run, state_in}
use Rattle.run_states.specs.States.{Ended, is_bad, is_good, phase_of}
use Rattle.run_report.specs.Reports.{IsReportIn, line_at, outputs_at}
use Rattle.build_outcome.specs.declared.job.Answer.{Answer}
use Rattle.build_outcome.specs.declared.job.Job.{Job}
use Rattle.build_outcome.specs.declared.reason.Reason.{Reason}
use Rattle.run_states.specs.declared.state.State.{State}
use Rattle.run_states.specs.declared.state.State.TheVariants.{Done, Reused}
use Rattle.store_run.specs.Builders.{IsAnswered}
use Rattle.store_run.specs.GivenOutcomes.{GivesEach}
use Rattle.store_run.specs.OneThread.{IsOneThread}
use Rattle.store_run.specs.Scheduling.{IsEndedRun}

-- ---- what is asked

-- no two derivations of a plan are twins
abbrev pub HasNoTwins : Graph → Type 0
HasNoTwins graph = (d e : ℕ) (a b : Node) → slice_get graph.nodes d ≡ Some a
    → slice_get graph.nodes e ≡ Some b → AreTwins a.drv b.drv → d ≡ e

-- no source of a plan's derivations is an output of one of them
abbrev pub HasForeignSources : Graph → Type 0
HasForeignSources graph = (a b : Node) (path : Path) → Contains graph.nodes a
    → Contains graph.nodes b → Contains a.drv.sources path
    → Contains (output_paths_of b.drv) path → ⊥

-- A run was cut, whether it was settled or not, and whatever failed in it. It was over a loaded
-- plan without twins, of which no source is an output.
pub record IsCutRun (may : Job → Result Answer Reason → Type 0) (run : Run) (cut : History)
    : Type 0 where
  pub plan : IsSound run.graph
  pub twins : HasNoTwins run.graph
  pub sources : HasForeignSources run.graph
  pub legal : IsLegal run cut
  pub answered : IsAnswered may run cut

-- A run was cut, and another opened with the entries that it left, and ended, where memory
-- sufficed.
pub record IsTakenUp (may : Job → Result Answer Reason → Type 0) (run : Run) (cut again : History)
    : Type 0 where
  pub is_cut : IsCutRun may run cut
  pub opening : again.opening ≡ cut.entries
  pub end : IsEndedRun may run again

-- ---- what was given

-- a builder may give this outcome, and where the job's derivation was built in this history, it is
-- the outcome that is listed for it
abbrev pub GivesBuilt : (may : Job → Result Answer Reason → Type 0) → History
    → (outcomes : ℕ → Result Answer Reason) → Job → Result Answer Reason → Type 0
GivesBuilt may history outcomes job outcome = may job outcome
    × (phase_of history.events job.derivation ≡ Ended → outcome ≡ outcomes job.derivation)

-- ---- what stands in two reports

-- the lines `failed` and `refused` of a report, in its order: those of the derivations that failed
-- or are refused
abbrev pub bad_lines : (run : Run) (history : History) (text : Bytes)
    → IsReportIn run history text → Bytes
bad_lines run history text report =
    flat_map (line_at run.graph.nodes report.named (state_in run history))
    (filter (λ d. is_bad (state_in run history d)) report.wanted)

-- the lines `output` of a report
abbrev pub output_lines_in : Run → History → Bytes
output_lines_in run history = flat_map (outputs_at run.graph.nodes (state_in run history))
    run.graph.roots

-- a derivation is wanted, and in this state
abbrev pub IsWantedAs : Run → History → ℕ → State → Type 0
IsWantedAs run history d state = IsWanted run history.opening d × (state_in run history d ≡ state)

-- A run that went on after a cut ended as another history ended. The same paths are valid,
-- each with the same record. The same derivations failed or are refused, for the same cause, so the
-- lines `failed` and `refused` of the reports are the same. The same roots are good, so the lines
-- `output` are the same. What the other history built was built or reused, where it is wanted.
pub record EndedAlike (run : Run) (again other : History) : Type 0 where
  pub records : (path : Path) (info : PathInfo)
      → Registers (registered again.entries) path info
      ↔ Registers (registered other.entries) path info
  pub bad : (d : ℕ) (state : State) → is_bad state ≡ true
      → IsWantedAs run again d state ↔ IsWantedAs run other d state
  pub lines : (a b : Bytes) (one : IsReportIn run again a) (two : IsReportIn run other b)
      → bad_lines run again a one ≡ bad_lines run other b two
  pub roots : (d : ℕ) → Contains run.graph.roots d
      → is_good (state_in run again d) ≡ is_good (state_in run other d)
  pub outputs : output_lines_in run again ≡ output_lines_in run other
  pub built : (d : ℕ) → IsWantedAs run other d Done → IsWanted run again.opening d
      → (state_in run again d ≡ Done) ⊎ (state_in run again d ≡ Reused)

-- ---- the law

-- These outcomes decide a run that was cut and taken up. What the run built before the cut, and all
-- that became of it after the cut, was given by them. There is a history of one thread over the
-- first opening that is given them, and the run ended as each such history.
pub record IsDecidedAfter (may : Job → Result Answer Reason → Type 0) (run : Run)
    (cut again : History) (outcomes : ℕ → Result Answer Reason)
    : Type 0 where
  pub built : IsAnswered (GivesBuilt may cut outcomes) run cut
  pub given : IsAnswered (GivesEach may outcomes) run again
  pub thread : (other : History) × IsOneThread (GivesEach may outcomes) run cut.opening other
  pub same : (other : History) → IsOneThread (GivesEach may outcomes) run cut.opening other
      → EndedAlike run again other

-- *Any interruption*: outcomes, one for each derivation, decide how a run that was cut and taken up
-- ends: that of its Done before the cut, where it has one, else what was given after it
abbrev pub AnyInterruption : (may : Job → Result Answer Reason → Type 0) → Type 0
AnyInterruption may = (run : Run) (cut again : History) → IsTakenUp may run cut again
    → (outcomes : ℕ → Result Answer Reason) × IsDecidedAfter may run cut again outcomes

-- Two runs, of which the second opened with what the first left, left what one run may leave.
pub record IsOneCutRun (may : Job → Result Answer Reason → Type 0) (run : Run)
    (first next one : History) : Type 0 where
  pub is_cut : IsCutRun may run one
  pub opening : one.opening ≡ first.opening
  pub entries : one.entries ≡ next.entries

-- two cuts, one after the other, are as one: so a run may be cut any number of times
abbrev pub CutsAreOne : (may : Job → Result Answer Reason → Type 0) → Type 0
CutsAreOne may = (run : Run) (first next : History) → IsCutRun may run first
    → IsCutRun may run next → next.opening ≡ first.entries
    → (one : History) × IsOneCutRun may run first next one
