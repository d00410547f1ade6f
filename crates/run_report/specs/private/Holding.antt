-- How the code holds a forecast.
use Rattle.std.specs.Prelude.{◌≡◌, Bool, ℕ, List, [], length, false, All}
use Rattle.std.specs.List.{slice_index_or}
use Rattle.valid_table.specs.declared.entry.Entry.{Entry}
use Rattle.run_states.specs.StateTables.{AreWanted}
use Rattle.run_states.specs.Runs.{Run, rows_of}
use Rattle.run_states.specs.States.{is_open, states_by}
use Rattle.run_states.specs.declared.state.State.{State}
use Rattle.run_states.specs.declared.state.State.TheVariants.{Blocked}
use Rattle.run_report.specs.Forecasts.{built_table}

-- the state of the derivation with this number, where the first ones have these states
abbrev pub state_at : List State → ℕ → State
state_at states d = slice_index_or states d Blocked

-- no one of these is Blocked, Ready or Building
abbrev pub AreClosed : List State → Type 0
AreClosed states = All (λ s. is_open s ≡ false) states

-- these are the states that are foretold of all derivations
abbrev pub AreForetold : Run → (opening : List Entry) → List State → Type 0
AreForetold run opening states =
    states ≡ states_by (built_table (rows_of run opening [])) (length run.graph.nodes)

-- What is held of a run that opens with these entries: which derivations are wanted, and the
-- state that is foretold of each.
pub record IsHeld (run : Run) (opening : List Entry) (wanted : List Bool) (states : List State)
    : Type 0 where
  pub are_wanted : AreWanted run opening wanted
  pub are_foretold : AreForetold run opening states
