-- What is held of a forecast says what is foretold.
use Rattle.std.proofs.Common.{◌≡◌, ℕ, ◌<◌, Bool, List, length, rules}
use Rattle.drv_graph.specs.Plans.{Graph}
use Rattle.valid_table.specs.declared.entry.Entry.{Entry}
use Rattle.run_states.specs.StateTables.{ArePreconditions, AreWanted}
use Rattle.run_states.specs.Systems.{Platform}
use Rattle.run_states.specs.Runs.{Run, terms_of}
use Rattle.run_states.specs.declared.precondition.Precondition.{Precondition}
use Rattle.run_states.specs.declared.state.State.{State}
use Rattle.run_states.proofs.StateLaws.{length_states, state_at as state_among}
use Rattle.run_report.specs.Forecasts.{forecast, foretold}
use Rattle.run_report.specs.private.Holding.{AreForetold, IsHeld, state_at}

module _ (run : Run) (opening : List Entry) (wanted : List Bool) (states : List State)
    (held : IsHeld run opening wanted states) where
  pub held_count : length states ≡ length run.graph.nodes
  held_count = search (rules, length_states)

  pub held_state : (d : ℕ) → d < length run.graph.nodes
      → state_at states d ≡ foretold run opening d
  unfolding forecast
  held_state d low = search (rules, state_among)

-- ---- a new forecast

pub are_held : (graph : Graph) (system : Platform) (opening : List Entry)
    (preconditions : List Precondition) (wanted : List Bool) (states : List State)
    → ArePreconditions (record { profile = graph.profile; system = system }) opening graph.nodes
    preconditions
    → ((run : Run) (first : List Entry) → run.graph ≡ graph
    → ArePreconditions (terms_of run) first graph.nodes preconditions → AreWanted run first wanted)
    → ((run : Run) (first : List Entry) → run.graph ≡ graph
    → ArePreconditions (terms_of run) first graph.nodes preconditions → AreWanted run first wanted
    → AreForetold run first states)
    → IsHeld (record { graph = graph; system = system }) opening wanted states
are_held graph system opening preconditions wanted states stand want told = search rules
