-- *State*: what has become of each derivation of a plan (this product's own; a failure stops only
-- its users, as with Nix's `--keep-going`).
use Rattle.std.specs.Prelude.{◌≡◌, ◌<◌, ◌==◌, ℕ, zero, suc, Bool, true, false, Option, Some, None, List, [], ◌∷◌, ◌++◌, find, if◌then◌else◌, Contains}
use Rattle.std.specs.List.{list_all, list_any, slice_index_or}
use Rattle.run_states.specs.declared.state.Event.{Event}
use Rattle.run_states.specs.declared.state.Event.TheVariants.{Begin, Done as Finish, Fail}
use Rattle.build_outcome.specs.declared.reason.Reason.{Reason}
use Rattle.run_states.specs.declared.state.Refusal.TheVariants.{InputNotRealised}
use Rattle.run_states.specs.declared.state.State.{State}
use Rattle.run_states.specs.declared.state.State.TheVariants.{Done, Failed, Building, Reused, Refused, Ready, Blocked}
use Rattle.run_states.specs.declared.precondition.Precondition.{Precondition}
use Rattle.run_states.specs.declared.precondition.Precondition.TheVariants.{AllValid, Hindered}

-- the phase of a derivation, by its last event: it has none; it began under this lease; it was
-- built; it failed
pub data Phase : Type 0 where
  Idle : Phase
  Begun : (lease : ℕ) → Phase
  Ended : Phase
  Broken : (reason : Reason) → Phase

-- a derivation's phase by one event alone
abbrev pub phase_by : Event → ℕ → Phase
phase_by (Begin e lease) d = if e == d then Begun lease else Idle
phase_by (Finish e lease) d = if e == d then Ended else Idle
phase_by (Fail e lease reason) d = if e == d then Broken reason else Idle

-- the later of two phases
abbrev pub later : (before after : Phase) → Phase
later before Idle = before
later before after = after

-- a derivation's phase by these events: by the last one that is its own
abbrev pub phase_of : List Event → ℕ → Phase
phase_of [] d = Idle
phase_of (event ∷ events) d = later (phase_by event d) (phase_of events d)

-- What the states of derivations follow from: of each, by its number, its inputs' numbers in its
-- text's order, its earlier twins' numbers, its precondition and its phase.
pub record Rows : Type 0 where
  pub inputs : ℕ → List ℕ
  pub twins : ℕ → List ℕ
  pub precondition : ℕ → Precondition
  pub phase : ℕ → Phase

-- whether a user can be begun after an input in this state
abbrev pub is_good : State → Bool
is_good Done = true
is_good Reused = true
is_good state = false

-- whether a derivation in this state is Blocked, Ready or Building
abbrev pub is_open : State → Bool
is_open Blocked = true
is_open Ready = true
is_open (Building lease) = true
is_open state = false

-- whether a derivation in this state was built
abbrev pub is_done : State → Bool
is_done Done = true
is_done state = false

-- whether a user of an input in this state is refused
abbrev pub is_bad : State → Bool
is_bad (Failed reason) = true
is_bad (Refused cause) = true
is_bad state = false

-- the state by the first input that failed or is refused, if there is one, and by whether all are
-- built or were valid
abbrev pub by_first : Option ℕ → Bool → State
by_first (Some input) all = Refused (InputNotRealised input)
by_first None true = Ready
by_first None false = Blocked

-- the state by the states of the inputs
abbrev pub by_inputs : (state : ℕ → State) → (inputs : List ℕ) → State
by_inputs state inputs = by_first (find (λ i. is_bad (state i)) inputs)
    (list_all (λ i. is_good (state i)) inputs)

-- the state by the derivation's own cause, if it has one
abbrev pub by_hindrance : Precondition → State → State
by_hindrance (Hindered cause) other = Refused cause
by_hindrance precondition other = other

-- the state by the states of the earlier twins: the derivation is reused where one was built, and
-- waits where one is Blocked, Ready or Building
abbrev pub by_twins : (state : ℕ → State) → (twins : List ℕ) → State → State
by_twins state twins other =
    if list_any (λ t. is_done (state t)) twins then Reused
    else if list_any (λ t. is_open (state t)) twins then Blocked
    else other

-- the state by whether all outputs of the derivation were valid
abbrev pub by_validity : Precondition → State → State
by_validity AllValid other = Reused
by_validity precondition other = other

-- the state by the phase, if the derivation has an event
abbrev pub by_phase : Phase → State → State
by_phase Idle other = other
by_phase (Begun lease) other = Building lease
by_phase Ended other = Done
by_phase (Broken reason) other = Failed reason

-- the table of states: the first that applies of the derivation's last event, whether all its
-- outputs were valid, its earlier twins, its own cause, and its inputs
unfoldable pub table : Rows → (state : ℕ → State) → ℕ → State
table rows state d =
    by_phase (rows.phase d) (by_validity (rows.precondition d) (by_twins state (rows.twins d)
    (by_hindrance (rows.precondition d) (by_inputs state (rows.inputs d)))))

-- the states of the first `count` derivations, each by a rule from the states before it
unfoldable pub states_by : (rule : (ℕ → State) → ℕ → State) → (count : ℕ) → List State
states_by rule zero = []
states_by rule (suc n) =
    states_by rule n ++ rule (λ i. slice_index_or (states_by rule n) i Blocked) n ∷ []

-- the state of a derivation, by the table, from those of its inputs and its earlier twins, which
-- have smaller numbers
unfoldable pub state : Rows → ℕ → State
state rows d = table rows (λ i. slice_index_or (states_by (table rows) d) i Blocked) d

-- What the state of each derivation follows from has smaller numbers: its inputs, and its earlier
-- twins.
pub record IsInOrder (rows : Rows) : Type 0 where
  pub inputs : (d i : ℕ) → Contains (rows.inputs d) i → i < d
  pub twins : (d t : ℕ) → Contains (rows.twins d) t → t < d

-- each derivation has the state that the table gives from the states of all
abbrev pub StatesAgree : Type 0
StatesAgree = (rows : Rows) (d : ℕ) → IsInOrder rows → state rows d ≡ table rows (state rows) d

-- no other states do
abbrev pub StatesAreOne : Type 0
StatesAreOne = (rows : Rows) (other : ℕ → State) (count : ℕ) → IsInOrder rows
    → ((d : ℕ) → d < count → other d ≡ table rows other d)
    → (d : ℕ) → d < count → other d ≡ state rows d
