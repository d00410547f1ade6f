-- How a book keeps its run.
use Rattle.std.specs.Prelude.{◌≡◌, ◌≤◌, ◌+◌, ◌++◌, ℕ, List, length, sum_by, take}
use Rattle.std.specs.List.{slice_index_or}
use Rattle.valid_table.specs.Valid.{IsJournal}
use Rattle.valid_table.specs.declared.entry.Entry.{Entry}
use Rattle.sched_core.specs.Books.{BuildsOver}
use Rattle.run_states.specs.StateTables.{AreNearest, ArePreconditions, AreWanted, StateTable}
use Rattle.run_states.specs.Systems.{Platform}
use Rattle.run_states.specs.Legal.{IsLegal, begins}
use Rattle.run_states.specs.Runs.{History, Run, terms_of}
use Rattle.run_states.specs.States.{Phase, Idle, Begun, Ended, Broken, phase_of}
use Rattle.run_states.specs.declared.state.Event.{Event}

-- how many events a derivation in this phase may still have
abbrev pub events_left : Phase → ℕ
events_left Idle = 2
events_left (Begun lease) = 1
events_left Ended = 0
events_left (Broken reason) = 0

-- the run over a state table's plan, for a system
abbrev pub run_over : StateTable → (system : Platform) → Run
run_over states system = record { graph = states.graph; system = system }

-- the history with these entries and events, which opened with the first `opening` entries
abbrev pub history_of : (opening : ℕ) → List Entry → List Event → History
history_of opening entries events = record {
  opening = take opening entries;
  entries = entries;
  events = events;
}

-- What is kept of a run: a legal history, the state table of its derivations, how many have begun,
-- and room for exactly the events that may come.
pub record IsRunKept (system : Platform) (history : History) (table : StateTable) (given room : ℕ)
    : Type 0 where
  pub legal : IsLegal (run_over table system) history
  pub preconditions : ArePreconditions (terms_of (run_over table system)) history.opening
      table.graph.nodes table.preconditions
  pub wanted : AreWanted (run_over table system) history.opening table.wanted
  pub twins : AreNearest (run_over table system) history.opening table.twins
  pub count : length table.phases ≡ length table.graph.nodes
  pub phases : (d : ℕ) → slice_index_or table.phases d Idle ≡ phase_of history.events d
  pub given_is : given ≡ begins history.events
  pub has_room : length history.events + sum_by events_left table.phases ≡ room

-- What holds in a book: its run is kept, its entries are a journal that begins with the opening
-- ones, the outlet holds just the entries, and what is building is built from what is valid by the
-- shown ones.
pub record IsBook (states : StateTable) (system : Platform) (opening : ℕ) (entries : List Entry)
    (events : List Event) (given room : ℕ) (shown pending : List Entry) : Type 0 where
  pub kept : IsRunKept system (history_of opening entries events) states given room
  pub opened : opening ≤ length entries
  pub is_journal : IsJournal entries
  pub holds : shown ++ pending ≡ entries
  pub builds : BuildsOver (run_over states system) (history_of opening entries events) shown
