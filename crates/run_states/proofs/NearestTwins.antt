-- In a legal history the nearest earlier twin alone says what all earlier twins say: once a
-- derivation has begun, each of its earlier twins has failed or is refused.
use Rattle.std.proofs.Common.{◌≡◌, ◌∙◌, ◌⊎◌, inl, inr, ⊎_elim, ℕ, ◌<◌, ◌||◌, Bool, true, false, List, [], ◌∷◌, ◌++◌, Option, Some, None, refl, sym, ap, subst, if◌then◌else◌, rules}
use Rattle.std.specs.Prelude.{Contains, find, map}
use Rattle.std.specs.List.{list_all, list_any}
use Rattle.std.proofs.lemmas.Bool.{cases_eq, false≢true, false_from_ne_true, ne_eqb, true≢false}
use Rattle.std.proofs.lemmas.List.Elements.{Contains-push}
use Rattle.std.proofs.lemmas.List.Folds.{list_any-append, list_any_at, list_any_none}
use Rattle.nix_names.proofs.Lists.{All-from_contains}
use Rattle.run_states.specs.Legal.{IsLegal, legal_begin, legal_done, legal_fail, legal_opening, begins}
use Rattle.run_states.specs.Nearest.{by_twin_news, last_alone, near_state, near_table, nearest, news_of}
use Rattle.run_states.specs.Runs.{History, Run, rows_of, state_in}
use Rattle.run_states.specs.States.{Begun, Broken, Ended, Idle, Phase, Rows, by_first, by_hindrance, by_inputs, by_phase, by_twins, by_validity, is_bad, is_done, is_good, is_open, phase_by, phase_of, state, table}
use Rattle.run_states.specs.declared.state.Event.{Event}
use Rattle.run_states.specs.declared.state.Event.TheVariants.{Begin, Done as Finish, Fail}
use Rattle.run_states.specs.declared.state.State.{State}
use Rattle.run_states.specs.declared.state.State.TheVariants.{Blocked, Ready, Reused}
use Rattle.run_states.specs.declared.precondition.Precondition.{Precondition}
use Rattle.run_states.specs.declared.precondition.Precondition.TheVariants.{AllValid, Free, Hindered}
use Rattle.run_states.proofs.ClosedStates.{bad_is_closed, bad_is_not_done, states_stay}
use Rattle.run_states.proofs.EarlierTwins.{HaveTwins, run_twins}
use Rattle.run_states.proofs.Histories.{building_from_begun}
use Rattle.run_states.proofs.LastTwins.{last_pushed}
use Rattle.run_states.proofs.Seeds.{phase_push, ready_by}
use Rattle.run_states.proofs.StateLaws.{any_same, reads_at, state_at, states_alike}

-- ---- what the table says, by what it reads

-- by whether one of the earlier twins was built, and whether one is open
abbrev pub stands_by : Phase → Precondition → (built still : Bool) → Option ℕ → (all : Bool) → State
stands_by p s built still first all =
    by_phase p (by_validity s (if built then Reused else if still then Blocked
    else by_hindrance s (by_first first all)))

module _ (rows : Rows) where
  -- by the states of all earlier twins, each in its turn
  abbrev pub any_twin : (State → Bool) → ℕ → Bool
  any_twin test d = list_any (λ t. test (state rows t)) (rows.twins d)

  abbrev pub first_bad : ℕ → Option ℕ
  first_bad d = find (λ i. is_bad (reads_at (table rows) d i)) (rows.inputs d)

  abbrev pub all_good : ℕ → Bool
  all_good d = list_all (λ i. is_good (reads_at (table rows) d i)) (rows.inputs d)

  read_at : (d i : ℕ) → i < d → reads_at (table rows) d i ≡ state rows i
  unfolding state
  read_at d i less = state_at (table rows) d i less

  pub any_read : HaveTwins rows → (test : State → Bool) (d : ℕ)
      → list_any (λ t. test (reads_at (table rows) d t)) (rows.twins d) ≡ any_twin test d
  any_read twins test d = any_same test (reads_at (table rows) d) (state rows) (rows.twins d)
      (λ t has. read_at d t (twins.first d t has))

  state_read : (d : ℕ) → state rows d ≡ stands_by (rows.phase d) (rows.precondition d)
      (list_any (λ t. is_done (reads_at (table rows) d t)) (rows.twins d))
      (list_any (λ t. is_open (reads_at (table rows) d t)) (rows.twins d)) (first_bad d)
      (all_good d)
  unfolding state table
  state_read d = refl

  pub state_is : HaveTwins rows → (d : ℕ) → state rows d
      ≡ stands_by (rows.phase d) (rows.precondition d) (any_twin is_done d) (any_twin is_open d)
      (first_bad d) (all_good d)
  state_is twins d =
      state_read d
      ∙ ap (λ b. stands_by (rows.phase d) (rows.precondition d) b
      (list_any (λ t. is_open (reads_at (table rows) d t)) (rows.twins d)) (first_bad d)
      (all_good d)) (any_read twins is_done d)
      ∙ ap (λ b. stands_by (rows.phase d) (rows.precondition d) (any_twin is_done d) b (first_bad d)
      (all_good d)) (any_read twins is_open d)

-- ---- once a derivation has begun

-- each of its earlier twins has failed or is refused
abbrev pub HaveEnded : Rows → Type 0
HaveEnded rows = (d t : ℕ) → (rows.phase d ≡ Idle → ⊥) → Contains (rows.twins d) t
    → is_bad (state rows t) ≡ true

-- which of the states that aren't open are bad
bad_by : (p : Phase) (s : Precondition) (built still : Bool) (first : Option ℕ) (all : Bool)
    → (s ≡ AllValid → ⊥) → built ≡ false → is_done (stands_by p s built still first all) ≡ false
    → is_open (stands_by p s built still first all) ≡ false
    → is_bad (stands_by p s built still first all) ≡ true
bad_by Idle AllValid built still first all not_valid none not_done closed = absurd (not_valid refl)
bad_by Idle s true still first all not_valid none not_done closed = absurd (true≢false none)
bad_by Idle (Hindered cause) false true first all not_valid none not_done closed =
    absurd (true≢false closed)
bad_by Idle Free false true first all not_valid none not_done closed = absurd (true≢false closed)
bad_by Idle (Hindered cause) false false first all not_valid none not_done closed = refl
bad_by Idle Free false false (Some i) all not_valid none not_done closed = refl
bad_by Idle Free false false None true not_valid none not_done closed = absurd (true≢false closed)
bad_by Idle Free false false None false not_valid none not_done closed = absurd (true≢false closed)
bad_by (Begun lease) s built still first all not_valid none not_done closed =
    absurd (true≢false closed)
bad_by Ended s built still first all not_valid none not_done closed = absurd (true≢false not_done)
bad_by (Broken reason) s built still first all not_valid none not_done closed = refl

none_has : (test : ℕ → Bool) (numbers : List ℕ) (n : ℕ) → list_any test numbers ≡ false
    → Contains numbers n → test n ≡ false
none_has test numbers n none (k, low, is) =
    search (rules, false_from_ne_true, false≢true, list_any_at)

pub none_from : (test : ℕ → Bool) (numbers : List ℕ)
    → ((n : ℕ) → Contains numbers n → test n ≡ false) → list_any test numbers ≡ false
none_from test numbers none = search (rules, list_any_none, All-from_contains)

module _ (rows : Rows) (twins : HaveTwins rows) where
  pub ready_ended : (d t : ℕ) → state rows d ≡ Ready → Contains (rows.twins d) t
      → is_bad (state rows t) ≡ true
  ready_ended d t ready has =
      let facts = ready_by (rows.phase d) (rows.precondition d) (any_twin rows is_done d)
      (any_twin rows is_open d) (by_first (first_bad rows d) (all_good rows d))
      (sym (state_is rows twins d) ∙ ready) in
      let none_built : any_twin rows is_done t ≡ false =
      none_from (λ u. is_done (state rows u)) (rows.twins t) (λ u more.
      none_has (λ v. is_done (state rows v)) (rows.twins d) u facts.none_built
      (twins.shared d t u has more)) in
      let not_valid : rows.precondition t ≡ AllValid → ⊥ = λ valid.
      let clash : Free ≡ AllValid = sym facts.free ∙ twins.valid d t has valid in absurd cc in
      let same = state_is rows twins t in
      ap is_bad same
      ∙ bad_by (rows.phase t) (rows.precondition t) (any_twin rows is_done t)
      (any_twin rows is_open t) (first_bad rows t) (all_good rows t) not_valid none_built
      (ap is_done (sym same)
      ∙ none_has (λ u. is_done (state rows u)) (rows.twins d) t facts.none_built has)
      (ap is_open (sym same)
      ∙ none_has (λ u. is_open (state rows u)) (rows.twins d) t facts.none_open has)

  -- after an event of a derivation that was open, whose earlier twins have ended
  event_ended : (phase : ℕ → Phase) (e : ℕ) → is_open (state rows e) ≡ true
      → ((d : ℕ) → (d ≡ e → ⊥) → phase d ≡ rows.phase d)
      → ((t : ℕ) → Contains (rows.twins e) t → is_bad (state rows t) ≡ true) → HaveEnded rows
      → HaveEnded (record rows { phase = phase })
  event_ended phase e still others own ended d t begun has =
      let before : is_bad (state rows t) ≡ true = ⊎_elim
      (λ same. own t (subst (λ n. Contains (rows.twins n) t) same has))
      (λ apart. ended d t (λ idle. begun (others d apart ∙ idle)) has) (cases_eq d e) in
      (states_stay rows phase moves t (bad_is_closed (state rows t) before)).2 ∙ before
    where
      moves : (d : ℕ) → (phase d ≡ rows.phase d) ⊎ (is_open (state rows d) ≡ true)
      moves d = search (rules, cases_eq)

-- an event of another derivation leaves it where it stood
phase_stays : (events : List Event) (event : Event) (d : ℕ) → phase_by event d ≡ Idle
    → phase_of (events ++ event ∷ []) d ≡ phase_of events d
phase_stays events event d none = search (rules, phase_push)

pub legal_ended : (run : Run) (history : History) → IsLegal run history
    → HaveEnded (rows_of run history.opening history.events)
legal_ended run _ (legal_opening entries journal) = search rules
legal_ended run _ (legal_begin history e legal within wanted ready) =
    let rows = rows_of run history.opening history.events in
    let event = Begin e (begins history.events) in
    event_ended rows (run_twins run history.opening history.events)
    (phase_of (history.events ++ event ∷ [])) e (ap is_open ready)
    (λ d apart. phase_stays history.events event d
    (ap (λ b. if b then Begun (begins history.events) else Idle)
    (ne_eqb e d (λ same. apart (sym same)))))
    (λ t has. ready_ended rows (run_twins run history.opening history.events) e t ready has)
    (legal_ended run history legal)
legal_ended run _
    (legal_done history e lease node infos entry legal phase is_node allowed is_entry) =
    let rows = rows_of run history.opening history.events in
    let event = Finish e lease in
    event_ended rows (run_twins run history.opening history.events)
    (phase_of (history.events ++ event ∷ [])) e
    (ap is_open (building_from_begun run history e lease phase))
    (λ d apart. phase_stays history.events event d
    (ap (λ b. if b then Ended else Idle) (ne_eqb e d (λ same. apart (sym same)))))
    (λ t has. legal_ended run history legal e t
    (λ idle. let clash : Begun lease ≡ Idle = sym phase ∙ idle in absurd cc) has)
    (legal_ended run history legal)
legal_ended run _ (legal_fail history e lease reason legal phase) =
    let rows = rows_of run history.opening history.events in
    let event = Fail e lease reason in
    event_ended rows (run_twins run history.opening history.events)
    (phase_of (history.events ++ event ∷ [])) e
    (ap is_open (building_from_begun run history e lease phase))
    (λ d apart. phase_stays history.events event d
    (ap (λ b. if b then Broken reason else Idle) (ne_eqb e d (λ same. apart (sym same)))))
    (λ t has. legal_ended run history legal e t
    (λ idle. let clash : Begun lease ≡ Idle = sym phase ∙ idle in absurd cc) has)
    (legal_ended run history legal)

-- ---- the nearest earlier twin alone

-- the nearest, in this state, says what it and its own earlier twins say
one_twin : (p : Phase) (s : Precondition) (built still : Bool) (first : Option ℕ) (all : Bool)
    (other : State) → (s ≡ AllValid → ⊥)
    → ((p ≡ Idle → ⊥) → (built ≡ false) × (still ≡ false))
    → (if built || is_done (stands_by p s built still first all) then Reused
    else if still || is_open (stands_by p s built still first all) then Blocked else other)
    ≡ by_twin_news (news_of (stands_by p s built still first all) ∷ []) other
one_twin Idle AllValid built still first all other not_valid begun = absurd (not_valid refl)
one_twin Idle (Hindered cause) true still first all other not_valid begun = refl
one_twin Idle (Hindered cause) false true first all other not_valid begun = refl
one_twin Idle (Hindered cause) false false first all other not_valid begun = refl
one_twin Idle Free true still first all other not_valid begun = refl
one_twin Idle Free false true first all other not_valid begun = refl
one_twin Idle Free false false (Some i) all other not_valid begun = refl
one_twin Idle Free false false None true other not_valid begun = refl
one_twin Idle Free false false None false other not_valid begun = refl
one_twin (Begun lease) s built still first all other not_valid begun = search rules
one_twin Ended s built still first all other not_valid begun = search rules
one_twin (Broken reason) s built still first all other not_valid begun = search rules

module _ (rows : Rows) (twins : HaveTwins rows) (ended : HaveEnded rows) where
  -- the twins of one that has begun
  begun_none : (t : ℕ) → (rows.phase t ≡ Idle → ⊥)
      → (any_twin rows is_done t ≡ false) × (any_twin rows is_open t ≡ false)
  begun_none t begun = search (rules, none_from, bad_is_not_done, bad_is_closed)

  -- what is read of the earlier twins
  any_after : (test : State → Bool) (d t : ℕ) → rows.twins d ≡ rows.twins t ++ t ∷ []
      → any_twin rows test d ≡ (any_twin rows test t || test (state rows t))
  any_after test d t parts =
      ap (list_any (λ u. test (state rows u))) parts
      ∙ list_any-append (λ u. test (state rows u)) (rows.twins t) (t ∷ [])
      ∙ ap (λ b. any_twin rows test t || b) (alone (test (state rows t)))
    where
      alone : (b : Bool) → (b || false) ≡ b
      alone true = refl
      alone false = refl

  twins_told : (d : ℕ) (other : State) → (rows.precondition d ≡ AllValid → ⊥)
      → by_twins (reads_at (table rows) d) (rows.twins d) other
      ≡ by_twin_news (map (λ t. news_of (reads_at (table rows) d t)) (last_alone (rows.twins d)))
      other
  twins_told d other not_valid = by (twins.last d)
    where
      reads : ℕ → State
      reads = reads_at (table rows) d

      by : (rows.twins d ≡ []) ⊎ ((t : ℕ) × (rows.twins d ≡ rows.twins t ++ t ∷ []))
          → by_twins reads (rows.twins d) other
          ≡ by_twin_news (map (λ t. news_of (reads t)) (last_alone (rows.twins d))) other
      by (inl none) = search (rules, reads)
      by (inr (t, parts)) =
          let has : Contains (rows.twins d) t =
          subst (λ l. Contains l t) (sym parts) (Contains-push (rows.twins t) t) in
          let same = state_is rows twins t in
          let p = rows.phase t in
          let s = rows.precondition t in
          let built = any_twin rows is_done t in
          let still = any_twin rows is_open t in
          let its = stands_by p s built still (first_bad rows t) (all_good rows t) in
          ap (λ b. if b then Reused else if list_any (λ u. is_open (reads u)) (rows.twins d) then
          Blocked else other)
          (any_read rows twins is_done d ∙ any_after is_done d t parts
          ∙ ap (λ r. built || is_done r) same)
          ∙ ap (λ b. if built || is_done its then Reused else if b then Blocked else other)
          (any_read rows twins is_open d ∙ any_after is_open d t parts
          ∙ ap (λ r. still || is_open r) same)
          ∙ one_twin p s built still (first_bad rows t) (all_good rows t) other
          (λ valid. not_valid (twins.valid d t has valid)) (begun_none t)
          ∙ ap (λ r. by_twin_news (news_of r ∷ []) other)
          (sym same ∙ sym (read_at rows d t (twins.first d t has)))
          ∙ ap (λ l. by_twin_news (map (λ u. news_of (reads u)) l) other)
          (sym (ap last_alone parts ∙ last_pushed (rows.twins t) t))

  tables_alike : (d : ℕ) → table rows (reads_at (table rows) d) d
      ≡ near_table (nearest rows) (reads_at (table rows) d) d
  unfolding table near_table
  tables_alike d = ap (by_phase (rows.phase d)) (by (rows.precondition d) refl)
    where
      reads : ℕ → State
      reads = reads_at (table rows) d

      by : (s : Precondition) → rows.precondition d ≡ s
          → by_validity s (by_twins reads (rows.twins d)
          (by_hindrance s (by_inputs reads (rows.inputs d))))
          ≡ by_validity s
          (by_twin_news (map (λ t. news_of (reads t)) (last_alone (rows.twins d)))
          (by_hindrance s (by_inputs reads (rows.inputs d))))
      by AllValid is = refl
      by (Hindered cause) is = search (rules, twins_told)
      by Free is = search (rules, twins_told, reads)

  pub near_told : (d : ℕ) → near_state (nearest rows) d ≡ state rows d
  unfolding near_state state
  near_told d = sym (states_alike (table rows) (near_table (nearest rows)) tables_alike d)

-- in a legal history both tables say the same
pub nearest_told : (run : Run) (history : History) → IsLegal run history → (d : ℕ)
    → near_state (nearest (rows_of run history.opening history.events)) d ≡ state_in run history d
nearest_told run history legal = search (rules, near_told, run_twins, legal_ended)
