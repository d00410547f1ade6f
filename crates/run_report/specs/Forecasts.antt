-- *Forecast*: the state in which each derivation of a plan ends, if each builder that is started
-- makes its outputs, and the text that tells it (this product's own).
use Rattle.std.specs.Prelude.{◌≡◌, ◌<◌, ◌⊎◌, Bool, ℕ, Option, None, List, []}
use Rattle.std.specs.List.{list_all, slice_index_or}
use Rattle.nix_names.specs.Bytes.{Bytes, Path}
use Rattle.drv_graph.specs.SoundGraphs.{IsSound}
use Rattle.valid_table.specs.declared.entry.Entry.{Entry}
use Rattle.run_states.specs.Runs.{IsWanted, Run, rows_of}
use Rattle.run_states.specs.States.{IsInOrder, Rows, is_good, states_by, table}
use Rattle.run_states.specs.declared.state.Refusal.{Refusal}
use Rattle.run_states.specs.declared.state.State.{State}
use Rattle.run_states.specs.declared.state.State.TheVariants.{Done, Failed, Building, Reused, Refused, Ready, Blocked}
use Rattle.run_report.specs.Reports.{IsTold}
use Rattle.run_report.specs.declared.report.tense.Tense.TheVariants.{Future}

-- What a forecast is of: a run, and the entries that its journal opens with.
pub record Opening : Type 0 where
  pub run : Run
  pub entries : List Entry

-- what becomes of a derivation in this state, where each one that can be begun is built
abbrev pub built_if_ready : State → State
built_if_ready Ready = Done
built_if_ready Done = Done
built_if_ready Reused = Reused
built_if_ready (Failed reason) = Failed reason
built_if_ready (Refused cause) = Refused cause
built_if_ready (Building lease) = Building lease
built_if_ready Blocked = Blocked

-- the table of states, where each derivation that can be begun is built
unfoldable pub built_table : Rows → (state : ℕ → State) → ℕ → State
built_table rows state d = built_if_ready (table rows state d)

-- the state that is foretold of a derivation by this table, from those of its inputs and its
-- earlier twins, which have smaller numbers
unfoldable pub forecast : Rows → ℕ → State
forecast rows d = built_table rows (λ i. slice_index_or (states_by (built_table rows) d) i Blocked)
    d

-- the state that is foretold of a derivation in a run that opens with these entries: nothing has
-- happened yet
abbrev pub foretold : Run → (opening : List Entry) → ℕ → State
foretold run opening d = forecast (rows_of run opening []) d

-- the line of a derivation names no path
abbrev pub IsUnnamed : ℕ → (named : Option Path) → Type 0
IsUnnamed d named = named ≡ None

-- the text is the forecast of a run that opens with these entries
abbrev pub IsForecast : Run → (opening : List Entry) → (text : Bytes) → Type 0
IsForecast run opening text = IsTold Future run.graph (IsWanted run opening) IsUnnamed
    (foretold run opening) text

-- whether each root is foretold to be built or reused
abbrev pub is_whole : Run → (opening : List Entry) → Bool
is_whole run opening = list_all (λ root. is_good (foretold run opening root)) run.graph.roots

-- each derivation has the foretold state that the table gives from the foretold states of all
abbrev pub ForecastsAgree : Type 0
ForecastsAgree = (rows : Rows) (d : ℕ) → IsInOrder rows
    → forecast rows d ≡ built_table rows (forecast rows) d

-- no other states agree with the table like that
abbrev pub ForecastsAreOne : Type 0
ForecastsAreOne = (rows : Rows) (other : ℕ → State) (count : ℕ) → IsInOrder rows
    → ((d : ℕ) → d < count → other d ≡ built_table rows other d)
    → (d : ℕ) → d < count → other d ≡ forecast rows d

-- it is foretold of each derivation that it is built, reused or refused
abbrev pub ForecastsAreClosed : Type 0
ForecastsAreClosed = (run : Run) (opening : List Entry) (d : ℕ) → IsSound run.graph
    → (foretold run opening d ≡ Done) ⊎ (foretold run opening d ≡ Reused)
    ⊎ ((cause : Refusal) × (foretold run opening d ≡ Refused cause))
