-- *States by the nearest earlier twins*: of the earlier twins of a derivation the nearest alone is
-- asked, since in a legal history all before it have ended once it has (this product's own).
use Rattle.std.specs.Prelude.{ℕ, List, [], ◌∷◌, map}
use Rattle.std.specs.List.{slice_index_or}
use Rattle.run_states.specs.States.{Rows, by_hindrance, by_inputs, by_phase, by_validity, states_by}
use Rattle.run_states.specs.declared.state.State.{State}
use Rattle.run_states.specs.declared.state.State.TheVariants.{Done, Failed, Building, Reused, Refused, Ready, Blocked}

-- what a derivation knows of one that it waits for: nothing yet; it was built or was valid; it
-- failed or is refused
pub data News : Type 0 where
  Open : News
  Good : News
  Bad : News

-- what a state says to a derivation that waits for this one
abbrev pub news_of : State → News
news_of Done = Good
news_of Reused = Good
news_of (Failed reason) = Bad
news_of (Refused cause) = Bad
news_of (Building lease) = Open
news_of Ready = Open
news_of Blocked = Open

-- the list of the last of some numbers alone; of no numbers, the empty list
abbrev pub last_alone : List ℕ → List ℕ
last_alone [] = []
last_alone (n ∷ []) = n ∷ []
last_alone (n ∷ m ∷ more) = last_alone (m ∷ more)

-- the rows with the nearest earlier twin of each derivation alone
abbrev pub nearest : Rows → Rows
nearest rows = record rows { twins = λ d. last_alone (rows.twins d) }

-- the state by what is known of the nearest earlier twin: reused where it was built or is reused,
-- and blocked where nothing is known of it yet
abbrev pub by_twin_news : List News → State → State
by_twin_news [] other = other
by_twin_news (Good ∷ more) other = Reused
by_twin_news (Open ∷ more) other = Blocked
by_twin_news (Bad ∷ more) other = other

-- the table of states, of rows with at most one twin each
unfoldable pub near_table : Rows → (state : ℕ → State) → ℕ → State
near_table rows state d =
    by_phase (rows.phase d) (by_validity (rows.precondition d)
    (by_twin_news (map (λ t. news_of (state t)) (rows.twins d))
    (by_hindrance (rows.precondition d) (by_inputs state (rows.inputs d)))))

-- the state of a derivation, by this table
unfoldable pub near_state : Rows → ℕ → State
near_state rows d =
    near_table rows (λ i. slice_index_or (states_by (near_table rows) d) i Blocked) d
