-- *A forecast comes true*: whatever the number of workers and the order of their turns, a run of
-- which no builder fails ends as was foretold (this product's own).
use Rattle.std.specs.Prelude.{◌≡◌, ℕ, List, codes, flat_map, slice_get, Contains}
use Rattle.std.specs.List.{list_all}
use Rattle.nix_names.specs.Bytes.{Bytes, Path}
use Rattle.drv_graph.specs.SoundGraphs.{IsSound}
use Rattle.run_states.specs.StateTables.{IsRunSettled}
use Rattle.run_states.specs.Legal.{IsLegal}
use Rattle.run_report.specs.Reports.{IsReportIn, built_word, path_line, refused_word, reused_word, why_line}
use Rattle.run_states.specs.Runs.{History, IsWanted, Run, earlier_twins, inputs_at, state_in}
use Rattle.run_states.specs.States.{is_good}
use Rattle.run_states.specs.declared.state.Event.TheVariants.{Fail}
use Rattle.build_outcome.specs.declared.reason.Reason.{Reason}
use Rattle.run_report.specs.Forecasts.{IsForecast, foretold, is_whole}
use Rattle.run_report.specs.declared.report.tense.Tense.{Tense}
use Rattle.run_report.specs.declared.report.tense.Tense.TheVariants.{Past, Future}

-- A run over a loaded plan went to its end: its history is legal, and no wanted derivation is
-- Blocked, Ready or Building.
pub record HasEnded (run : Run) (history : History) : Type 0 where
  pub plan : IsSound run.graph
  pub legal : IsLegal run history
  pub settled : IsRunSettled run history

-- the builder of a derivation failed
abbrev pub HasFailed : History → ℕ → Type 0
HasFailed history d = (lease : ℕ) × ((reason : Reason)
    × Contains history.events (Fail d lease reason))

-- no builder failed
abbrev pub NoneFailed : History → Type 0
NoneFailed history = (d : ℕ) → HasFailed history d → ⊥

-- A derivation is spared: it did not fail, and its inputs and its earlier twins are spared. So no
-- failure reaches it by any way.
pub data IsSpared (run : Run) (history : History) : ℕ → Type 0 where
  spared : (d : ℕ) → (HasFailed history d → ⊥)
      → ((i : ℕ) → Contains (inputs_at run.graph.nodes (slice_get run.graph.nodes d)) i
      → IsSpared run history i)
      → ((t : ℕ) → Contains (earlier_twins run history.opening d) t → IsSpared run history t)
      → IsSpared run history d

-- each wanted derivation that no failure reaches ends in its foretold state
abbrev pub SparedComeTrue : Type 0
SparedComeTrue = (run : Run) (history : History) → HasEnded run history → (d : ℕ)
    → IsWanted run history.opening d → IsSpared run history d
    → state_in run history d ≡ foretold run history.opening d

-- where no builder failed, each wanted derivation ends in its foretold state
abbrev pub StatesComeTrue : Type 0
StatesComeTrue = (run : Run) (history : History) → HasEnded run history → NoneFailed history
    → (d : ℕ) → IsWanted run history.opening d
    → state_in run history d ≡ foretold run history.opening d

-- A line that tells of a derivation that is built, reused or refused, or of an output.
pub data ForecastLine : Type 0 where
  Build : (path : Path) → ForecastLine
  Reuse : (path : Path) → ForecastLine
  Refuse : (path : Path) (why : Bytes) → ForecastLine
  Output : (path : Path) → ForecastLine

-- how a report and a forecast write a line
abbrev pub telling : Tense → ForecastLine → Bytes
telling tense (Build path) = path_line (built_word tense) path
telling tense (Reuse path) = path_line (reused_word tense) path
telling tense (Refuse path why) = why_line (refused_word tense) path why
telling tense (Output path) = path_line (codes "output ") path

-- A forecast and a report tell the same, line by line.
pub record TellTheSame (text report : Bytes) : Type 0 where
  pub lines : List ForecastLine
  pub is_forecast : text ≡ flat_map (telling Future) lines
  pub is_report : report ≡ flat_map (telling Past) lines

-- where no builder failed, the report tells what the forecast told
abbrev pub ReportsComeTrue : Type 0
ReportsComeTrue = (run : Run) (history : History) → HasEnded run history → NoneFailed history
    → (text report : Bytes) → IsForecast run history.opening text → IsReportIn run history report
    → TellTheSame text report

-- where no builder failed, all roots are built or reused exactly if that was foretold
abbrev pub WholeComesTrue : Type 0
WholeComesTrue = (run : Run) (history : History) → HasEnded run history → NoneFailed history
    → list_all (λ root. is_good (state_in run history root)) run.graph.roots
    ≡ is_whole run history.opening
