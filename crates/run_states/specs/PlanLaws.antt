-- What holds of each run over a sound plan, whatever happened in it.
use Rattle.std.specs.Prelude.{◌≡◌, ◌↔◌, true, ℕ, List}
use Rattle.drv_graph.specs.SoundGraphs.{IsSound}
use Rattle.valid_table.specs.declared.entry.Entry.{Entry}
use Rattle.run_states.specs.Runs.{IsWanted, Run, is_wanted, rows_of}
use Rattle.run_states.specs.States.{IsInOrder}
use Rattle.run_states.specs.declared.state.Event.{Event}

-- the inputs and the earlier twins of each derivation have smaller numbers
abbrev pub RowsInOrder : Type 0
RowsInOrder = (run : Run) (opening : List Entry) (events : List Event) → IsSound run.graph
    → IsInOrder (rows_of run opening events)

-- the test of what is wanted is right
abbrev pub WantedIsTold : Type 0
WantedIsTold = (run : Run) (opening : List Entry) (d : ℕ) → IsSound run.graph
    → (is_wanted run opening d ≡ true) ↔ IsWanted run opening d
