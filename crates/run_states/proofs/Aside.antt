-- What the state of a derivation follows from, its own events aside.
use Rattle.std.proofs.Common.{◌≡◌, ℕ, List, refl, rules}
use Rattle.std.specs.Prelude.{Contains}
use Rattle.run_states.specs.States.{IsInOrder, Phase, Rows, by_hindrance, by_inputs, by_phase, by_twins, by_validity, is_done, is_open, state, table}
use Rattle.run_states.specs.declared.state.State.{State}
use Rattle.run_states.specs.declared.precondition.Precondition.{Precondition}
use Rattle.run_states.specs.declared.precondition.Precondition.TheVariants.{AllValid, Hindered, Free}
use Rattle.run_states.proofs.StateLaws.{all_same, any_same, find_same, states_agree}

-- by its precondition, its earlier twins and its inputs, in these states
abbrev pub aside : Rows → (state : ℕ → State) → ℕ → State
aside rows f d = by_validity (rows.precondition d) (by_twins f (rows.twins d)
    (by_hindrance (rows.precondition d) (by_inputs f (rows.inputs d))))

pub table_is : (rows : Rows) (f : ℕ → State) (d : ℕ)
    → table rows f d ≡ by_phase (rows.phase d) (aside rows f d)
unfolding table
table_is rows f d = refl

-- its state, by its last event
pub state_aside : (rows : Rows) → IsInOrder rows → (d : ℕ) (p : Phase) → rows.phase d ≡ p
    → state rows d ≡ by_phase p (aside rows (state rows) d)
state_aside rows order d p is = search (rules, states_agree, table_is, aside)

-- two ways to give states that agree where a derivation reads give the same
by_inputs_same : (f g : ℕ → State) (inputs : List ℕ)
    → ((i : ℕ) → Contains inputs i → f i ≡ g i) → by_inputs f inputs ≡ by_inputs g inputs
by_inputs_same f g inputs same = search (rules, find_same, all_same)

by_twins_same : (f g : ℕ → State) (twins : List ℕ) (other : State)
    → ((t : ℕ) → Contains twins t → f t ≡ g t) → by_twins f twins other ≡ by_twins g twins other
by_twins_same f g twins other same =
    rw (any_same is_done f g twins same, any_same is_open f g twins same) refl

-- the inputs matter to one alone that stands free
pub aside_same : (rows : Rows) (f g : ℕ → State) (d : ℕ)
    → (rows.precondition d ≡ Free → (i : ℕ) → Contains (rows.inputs d) i → f i ≡ g i)
    → ((t : ℕ) → Contains (rows.twins d) t → f t ≡ g t) → aside rows f d ≡ aside rows g d
aside_same rows f g d inputs twins = by (rows.precondition d) refl
  where
    by : (s : Precondition) → rows.precondition d ≡ s
        → by_validity s (by_twins f (rows.twins d) (by_hindrance s (by_inputs f (rows.inputs d))))
        ≡ by_validity s (by_twins g (rows.twins d) (by_hindrance s (by_inputs g (rows.inputs d))))
    by AllValid is = refl
    by (Hindered cause) is = search (rules, by_twins_same)
    by Free is = search (rules, by_twins_same, by_inputs_same)
