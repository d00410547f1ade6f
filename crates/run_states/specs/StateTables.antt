-- *State table*: a plan, and what the state of each of its derivations follows from (this product's
-- own).
use Rattle.std.specs.Prelude.{◌≡◌, ◌<◌, ◌⊎◌, Bool, true, false, ℕ, Option, Some, None, List, [], ◌∷◌, ◌++◌, length, slice_get}
use Rattle.std.specs.List.{slice_index_or}
use Rattle.drv_graph.specs.Nodes.{Node}
use Rattle.drv_graph.specs.Plans.{Graph}
use Rattle.valid_table.specs.declared.entry.Entry.{Entry}
use Rattle.run_states.specs.Nearest.{last_alone, near_state}
use Rattle.run_states.specs.Runs.{IsWanted, Run, Terms, earlier_twins, inputs_at, precondition_at}
use Rattle.run_states.specs.States.{Phase, Idle, Begun, Rows}
use Rattle.run_states.specs.declared.state.State.{State}
use Rattle.run_states.specs.declared.state.State.TheVariants.{Building, Ready, Blocked}
use Rattle.run_states.specs.declared.precondition.Precondition.{Precondition}
use Rattle.run_states.specs.declared.precondition.Precondition.TheVariants.{Free}
use Rattle.run_states.specs.Runs.{History, state_in}

-- What is known of a plan's derivations, of each at its number: its precondition, whether it is
-- wanted, its nearest earlier twin, and its phase.
pub record StateTable : Type 0 where
  pub graph : Graph
  pub preconditions : List Precondition
  pub wanted : List Bool
  pub twins : List (Option ℕ)
  pub phases : List Phase

-- the list of a number, or the empty list if there is no number
abbrev pub listed : Option ℕ → List ℕ
listed (Some n) = n ∷ []
listed None = []

-- What a derivation waits for: its inputs, in its text's order, and the nearest of its earlier
-- twins, if it has one.
pub record Awaited : Type 0 where
  pub inputs : List ℕ
  pub twins : List ℕ

-- all that a derivation waits for, the twin at the end
abbrev pub all_of : Awaited → List ℕ
all_of awaited = awaited.inputs ++ awaited.twins

-- what the derivation with this number waits for, in a plan of which each derivation has this
-- nearest earlier twin
abbrev pub awaited_at : Graph → (twins : List (Option ℕ)) → ℕ → Awaited
awaited_at graph twins d = record {
  inputs = inputs_at graph.nodes (slice_get graph.nodes d);
  twins = listed (slice_index_or twins d None);
}

-- the rows from which the states of a state table follow
abbrev pub rows_of_table : StateTable → Rows
rows_of_table table = record {
  inputs = λ d. inputs_at table.graph.nodes (slice_get table.graph.nodes d);
  twins = λ d. listed (slice_index_or table.twins d None);
  precondition = λ d. slice_index_or table.preconditions d Free;
  phase = λ d. slice_index_or table.phases d Idle;
}

-- the state of a derivation of a state table
abbrev pub table_state : StateTable → ℕ → State
table_state table d = near_state (rows_of_table table) d

-- a derivation is wanted and can be begun
abbrev pub IsNext : StateTable → ℕ → Type 0
IsNext table d = (d < length table.graph.nodes) × (slice_index_or table.wanted d false ≡ true)
    × (table_state table d ≡ Ready)

-- a derivation has begun under some lease and not ended
abbrev pub HasBegun : StateTable → ℕ → Type 0
HasBegun table d = (d < length table.graph.nodes)
    × ((lease : ℕ) × (slice_index_or table.phases d Idle ≡ Begun lease))

-- a derivation in this state is Blocked, Ready or Building
abbrev pub IsOpen : State → Type 0
IsOpen state = (state ≡ Blocked) ⊎ (state ≡ Ready) ⊎ ((lease : ℕ) × (state ≡ Building lease))

-- a derivation is wanted, and Blocked, Ready or Building
abbrev pub IsUnsettledIn : StateTable → ℕ → Type 0
IsUnsettledIn table d = (d < length table.graph.nodes)
    × (slice_index_or table.wanted d false ≡ true) × IsOpen (table_state table d)

-- no wanted derivation is Blocked, Ready or Building
abbrev pub IsSettled : StateTable → Type 0
IsSettled table = (d : ℕ) → d < length table.graph.nodes → slice_index_or table.wanted d false
    ≡ true → IsOpen (table_state table d) → ⊥

-- the precondition of each derivation after these entries, in a run by these terms
pub record ArePreconditions (terms : Terms) (entries : List Entry) (nodes : List Node)
    (preconditions : List Precondition) : Type 0 where
  pub count : length preconditions ≡ length nodes
  pub each : (d : ℕ) → d < length nodes → slice_index_or preconditions d Free
      ≡ precondition_at terms entries (slice_get nodes d)

-- of each derivation, whether it is wanted
pub record AreWanted (run : Run) (opening : List Entry) (wanted : List Bool) : Type 0 where
  pub count : length wanted ≡ length run.graph.nodes
  pub yes : (d : ℕ) → slice_index_or wanted d false ≡ true → IsWanted run opening d
  pub no : (d : ℕ) → IsWanted run opening d → slice_index_or wanted d false ≡ true

-- of each derivation, the nearest of its earlier twins
pub record AreNearest (run : Run) (opening : List Entry) (twins : List (Option ℕ)) : Type 0 where
  pub count : length twins ≡ length run.graph.nodes
  pub each : (d : ℕ) → d < length run.graph.nodes → listed (slice_index_or twins d None)
      ≡ last_alone (earlier_twins run opening d)

-- A derivation can be begun: it is wanted, and ready.
pub record CanBegin (run : Run) (history : History) (d : ℕ) : Type 0 where
  pub within : d < length run.graph.nodes
  pub wanted : IsWanted run history.opening d
  pub ready : state_in run history d ≡ Ready

-- a derivation is wanted, and Blocked, Ready or Building
abbrev pub IsUnsettled : Run → History → ℕ → Type 0
IsUnsettled run history d = (d < length run.graph.nodes) × IsWanted run history.opening d
    × IsOpen (state_in run history d)

-- no wanted derivation is Blocked, Ready or Building
abbrev pub IsRunSettled : Run → History → Type 0
IsRunSettled run history = (d : ℕ) → d < length run.graph.nodes → IsWanted run history.opening d
    → IsOpen (state_in run history d) → ⊥
