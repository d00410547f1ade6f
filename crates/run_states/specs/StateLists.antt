-- How a state table is kept: by the state of each derivation.
use Rattle.std.specs.Prelude.{◌≡◌, ◌<◌, Bool, ℕ, List, Option, map}
use Rattle.std.specs.List.{slice_index_or}
use Rattle.drv_graph.specs.Plans.{Graph}
use Rattle.run_states.specs.StateTables.{StateTable}
use Rattle.run_states.specs.Nearest.{near_state}
use Rattle.run_states.specs.States.{Phase, Idle, Begun, Ended, Broken, Rows}
use Rattle.run_states.specs.declared.state.State.{State}
use Rattle.run_states.specs.declared.state.State.TheVariants.{Building, Done, Failed, Blocked}
use Rattle.run_states.specs.declared.precondition.Precondition.{Precondition}

-- the phase of a derivation in this state
abbrev pub phase_in : State → Phase
phase_in (Building lease) = Begun lease
phase_in Done = Ended
phase_in (Failed reason) = Broken reason
phase_in state = Idle

-- the state table of a plan whose derivations have these states
abbrev pub table_of : Graph → List Precondition → (wanted : List Bool) → (twins : List (Option ℕ))
    → List State → StateTable
table_of graph preconditions wanted twins states = record {
  graph = graph;
  preconditions = preconditions;
  wanted = wanted;
  twins = twins;
  phases = map phase_in states;
}

-- the state of the derivation with this number in a list of states
abbrev pub kept : List State → ℕ → State
kept states d = slice_index_or states d Blocked

-- the states of the first `count` derivations follow from the rows
abbrev pub AreStatesOf : Rows → (count : ℕ) → List State → Type 0
AreStatesOf rows count states = (d : ℕ) → d < count → kept states d ≡ near_state rows d
