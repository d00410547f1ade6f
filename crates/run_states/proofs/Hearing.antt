-- Memos are right but for the edges along which users are still to be told: what keeps it so.
use Rattle.std.proofs.Common.{◌≡◌, ◌∙◌, ◌⊎◌, inl, inr, ⊎_elim, ℕ, zero, suc, ◌+◌, ◌<◌, ◌==◌, ◌&&◌, Bool, true, false, List, [], ◌∷◌, ◌++◌, drop, length, take, Some, get_or, set, if◌then◌else◌, refl, sym, ap, subst, eqb, eqb-true, eq-eqb, ne_eqb, le_of_lt, le_refl, lt_of_lt_of_le, ◌≤◌, arith, rules}
use Rattle.std.specs.Prelude.{Contains, slice_get, slice_set}
use Rattle.std.specs.List.{slice_index_or}
use Rattle.std.proofs.lemmas.Bool.{cases_Bool, eqb-false}
use Rattle.std.proofs.lemmas.List.{ext_get_or, get_or-map, get_or-set_other, get_or-set_same, get_or_append_left, length-map, map-append, map-set}
use Rattle.std.proofs.lemmas.Option.{get_or_from_slice_get, none-some, same_Some, slice_get-get_or, slice_get_within}
use Rattle.nix_names.proofs.Lists.{Contains-from_get, element_at, get_mapped, get_push_cases, same_element}
use Rattle.run_states.specs.StateTables.{Awaited, all_of}
use Rattle.run_states.specs.StateLists.{AreStatesOf, kept, phase_in}
use Rattle.run_states.specs.Nearest.{News, Open, Good, Bad, by_twin_news, near_table, news_of}
use Rattle.run_states.specs.States.{Idle, IsInOrder, Rows, by_hindrance, by_phase, by_validity}
use Rattle.run_states.proofs.KnownNews.{by_news_in}
use Rattle.run_states.proofs.StateLaws.{near_are_one}
use Rattle.run_states.specs.NodeStates.{CanHear, HaveHeard, Hears, IsMemo, Knows, Turns, turns_begun, turns_done, turns_failed, turns_freed, turns_named, turns_refused, turns_reused, turns_stays, are_news, by_heard, by_news, news_in, of_inputs, of_twins, states_in, to_tell}
use Rattle.run_states.specs.Users.{AreUsers, times, users_of}
use Rattle.run_states.specs.declared.state.State.{State}
use Rattle.run_states.specs.declared.state.State.TheVariants.{Blocked, Building, Done, Failed, Ready, Refused, Reused}
use Rattle.run_states.specs.declared.node_states.NodeState.{NodeState}
use Rattle.run_states.specs.declared.users.Edge.{Edge}

-- ---- how often an edge is in a list

times-append : (user index : ℕ) (xs ys : List Edge)
    → times user index (xs ++ ys) ≡ times user index xs + times user index ys
times-append user index [] ys = omega arith
times-append user index (x ∷ xs) ys = omega (arith, times-append user index xs ys)

times-where : (user index : ℕ) (b : Bool) (edges : List Edge)
    → times user index (if b then edges else []) ≡ (if b then times user index edges else 0)
times-where user index true edges = refl
times-where user index false edges = refl

times-first : (edge : Edge) (left : List Edge)
    → times edge.user edge.index (edge ∷ left) ≡ 1 + times edge.user edge.index left
times-first edge left = search (rules, eq-eqb)

times-other_user : (user index : ℕ) (edge : Edge) (left : List Edge) → (user ≡ edge.user → ⊥)
    → times user index (edge ∷ left) ≡ times user index left
times-other_user user index edge left apart = search (rules, ne_eqb)

times-other_index : (user index : ℕ) (edge : Edge) (left : List Edge) → (index ≡ edge.index → ⊥)
    → times user index (edge ∷ left) ≡ times user index left
times-other_index user index edge left apart = by (eqb edge.user user) (eqb edge.index index)
    (ne_eqb edge.index index (λ e. apart (sym e)))
  where
    by : (a b : Bool) → b ≡ false
        → (if a && b then 1 else 0) + times user index left ≡ times user index left
    by true b failed = rw failed (omega arith)
    by false b failed = omega arith

-- ---- lists of memos

get_set_cases : {X : Type 0} (xs : List X) (i j : ℕ) (x y : X) → slice_get (set xs i x) j ≡ Some y
    → ((j ≡ i) × (x ≡ y)) ⊎ ((j ≡ i → ⊥) × (slice_get xs j ≡ Some y))
get_set_cases [] i j x y is = absurd (none-some y is)
get_set_cases (z ∷ xs) zero zero x y is = inl (refl, same_Some x y is)
get_set_cases (z ∷ xs) zero (suc j) x y is = inr (λ e. omega (arith, e), is)
get_set_cases (z ∷ xs) (suc i) zero x y is = inr (λ e. omega (arith, e), is)
get_set_cases (z ∷ xs) (suc i) (suc j) x y is = search (rules, get_set_cases xs i j x y is)

-- ---- news

-- what a change of state tells: nothing new, or news where there was none
turns_news : (before after : State) → Turns before after
    → ((are_news (news_of before) (news_of after) ≡ false) × (news_of after ≡ news_of before))
    ⊎ ((are_news (news_of before) (news_of after) ≡ true) × (news_of before ≡ Open)
    × (news_of after ≡ Open → ⊥))
turns_news before after (turns_stays s) = inl (no_news (news_of s), refl)
  where
    no_news : (n : News) → are_news n n ≡ false
    no_news Open = refl
    no_news Good = refl
    no_news Bad = refl
turns_news before after (turns_named cause other) = inl (refl, refl)
turns_news before after turns_freed = inl (refl, refl)
turns_news before after turns_reused = inr (refl, refl, λ e. cc)
turns_news before after (turns_refused cause) = inr (refl, refl, λ e. cc)
turns_news before after (turns_begun lease) = inl (refl, refl)
turns_news before after (turns_done lease) = inr (refl, refl, λ e. cc)
turns_news before after (turns_failed lease reason) = inr (refl, refl, λ e. cc)

-- what is left to tell of an input whose state may change so
knows_turned : (before after : State) (known : News) (left here : ℕ) → Turns before after
    → here ≡ 1 → Knows known (news_of before) left
    → Knows known (news_of after)
    (left + (if are_news (news_of before) (news_of after) then here else 0))
knows_turned before after known left here turns once knows =
    search (rules, turns_news, before, after)

-- of one whose state stays
knows_more : (known now : News) (left more : ℕ) → more ≡ 0 → Knows known now left
    → Knows known now (left + more)
knows_more known now left more none knows = search rules

-- a memo that is right for some states is right for others where so much is left to tell
hears_others : (inputs : Awaited) (before after : ℕ → State) (left more : ℕ → ℕ) (memo : NodeState)
    → ((index input : ℕ) (known : News) → slice_get (all_of inputs) index ≡ Some input
    → Knows known (news_of (before input)) (left index)
    → Knows known (news_of (after input)) (more index))
    → Hears inputs before left memo → Hears inputs after more memo
hears_others inputs before after left more memo step hears = record {
  heard = hears.heard;
  is = hears.is;
  knows = λ index input at. step index input (slice_index_or hears.heard index Open) at
      (hears.knows index input at);
}

-- ---- one memo that changes

module _ (inputs : ℕ → Awaited) (count : ℕ) (users : List (List Edge)) (memos : List NodeState)
    (d : ℕ) (memo new : NodeState) (left : List Edge)
    (long : length memos ≡ count) (are : AreUsers (λ e. all_of (inputs e)) count users)
    (at : slice_get memos d ≡ Some memo) (turns : Turns memo.state new.state) where
  abbrev state_of : NodeState → State
  state_of memo = memo.state

  abbrev before : ℕ → State
  before = kept (states_in memos)

  abbrev after : ℕ → State
  after = kept (states_in (set memos d new))

  abbrev news : Bool
  news = are_news (news_of memo.state) (news_of new.state)

  abbrev more : List Edge
  more = left ++ to_tell memo.state new.state (users_of users d)

  in_plan : (u : ℕ) (t : NodeState) → slice_get memos u ≡ Some t → u < count
  in_plan u t is = search (rules, slice_get_within)

  state_at : slice_get (states_in memos) d ≡ Some memo.state
  state_at = get_mapped state_of _ d _ at

  before_is : before d ≡ memo.state
  before_is = search (rules, get_or_from_slice_get, state_at)

  after_is : after d ≡ new.state
  after_is = search (rules, map-set, state_of, get_or-set_same, slice_get_within, state_at)

  after_other : (i : ℕ) → (i ≡ d → ⊥) → after i ≡ before i
  after_other i apart = search (rules, map-set, state_of, get_or-set_other)

  -- how often the edge from the one that changed is to be told
  times_more : (u index input : ℕ) → u < count → slice_get (all_of (inputs u)) index ≡ Some input
      → times u index more
      ≡ times u index left + (if news then (if input == d then 1 else 0) else 0)
  times_more u index input low is = search (rules, times-append, times-where, news, in_plan, low)

  -- of each input of a user
  pub knows_step : (u index input : ℕ) (known : News) → u < count
      → slice_get (all_of (inputs u)) index ≡ Some input
      → Knows known (news_of (before input)) (times u index left)
      → Knows known (news_of (after input)) (times u index more)
  knows_step u index input known low is knows =
      ⊎_elim
      (λ here.
      let it = eqb-true input d here in
      subst (λ n. Knows known (news_of (after input)) n) (sym (times_more u _ _ low is))
      (subst (λ s. Knows known (news_of s)
      (times u index left + (if news then (if input == d then 1 else 0) else 0)))
      (sym (ap after it ∙ after_is))
      (knows_turned _ _ _ _ _
      turns (rw here refl)
      (subst (λ s. Knows known (news_of s) (times u index left)) (ap before it ∙ before_is)
      knows))))
      (λ other.
      let apart = eqb-false input d other in
      subst (λ n. Knows known (news_of (after input)) n) (sym (times_more u _ _ low is))
      (subst (λ s. Knows known (news_of s)
      (times u index left + (if news then (if input == d then 1 else 0) else 0)))
      (sym (after_other _ apart))
      (knows_more _ _ _
      _ (rw other (nothing news)) knows)))
      (cases_Bool (input == d))
    where
      nothing : (b : Bool) → ◌≡◌ {A = ℕ} (if b then 0 else 0) 0
      nothing true = refl
      nothing false = refl

  -- each user's memo is right, where the others' and the one's that changed are
  pub heard_step : (earlier : List Edge)
      → ((u index : ℕ) → (u ≡ d → ⊥) → times u index earlier ≡ times u index left)
      → HaveHeard inputs memos earlier
      → Hears (inputs d) before (λ index. times d index left) new
      → HaveHeard inputs (set memos d new) more
  heard_step earlier same have own = record {
    each = λ u t is.
        ⊎_elim
        (λ here.
        subst (λ n. Hears (inputs n) after (λ index. times n index more) t) (sym here.0)
        (subst (λ w. Hears (inputs d) after (λ index. times d index more) w) here.1
        (hears_others _ before after (λ index. times d index left)
        (λ index. times d index more) _
        (λ index input known it. knows_step d _ _ _ (in_plan d _ at) it) own)))
        (λ other.
        hears_others _ before after (λ index. times u index earlier)
        (λ index. times u index more) t
        (λ index input known it knows. knows_step u _ _ _ (in_plan u t other.1) it
        (subst (λ n. Knows known (news_of (before input)) n) (same u index other.0) knows))
        (have.each u t other.1))
        (get_set_cases _ d u _ t is);
  }

-- ---- an event

-- the state of a derivation becomes Building, Done or Failed
pub heard_turned : (inputs : ℕ → Awaited) (count : ℕ) (users : List (List Edge))
    (memos : List NodeState) (d : ℕ) (memo : NodeState) (after : State) (left : List Edge)
    → length memos ≡ count → AreUsers (λ e. all_of (inputs e)) count users
    → slice_get memos d ≡ Some memo
    → Turns memo.state after → (phase_in after ≡ Idle → ⊥)
    → HaveHeard inputs memos left
    → HaveHeard inputs (slice_set memos d (record memo { state = after }))
    (left ++ to_tell memo.state after (users_of users d))
heard_turned inputs count users memos d memo after left long are at turns begun have =
    heard_step _ count users memos d memo (record memo { state = after }) left long are at
    turns left (λ u index apart. refl) have
    (let hears = have.each d memo at in
    record {
      heard = hears.heard;
      is = record {
        one = hears.is.one;
        count = hears.is.count;
        state = by_event after begun (by_heard memo.precondition (inputs d) hears.heard);
        inputs = hears.is.inputs;
        waits = hears.is.waits;
        first = hears.is.first;
        failed = hears.is.failed;
        held = hears.is.held;
      };
      knows = hears.knows;
    })
  where
    by_event : (after : State) → (phase_in after ≡ Idle → ⊥) → (other : State)
        → after ≡ by_phase (phase_in after) other
    by_event (Building lease) begun other = refl
    by_event Done begun other = refl
    by_event (Failed reason) begun other = refl
    by_event Reused begun other = absurd (begun refl)
    by_event (Refused cause) begun other = absurd (begun refl)
    by_event Ready begun other = absurd (begun refl)
    by_event Blocked begun other = absurd (begun refl)

-- ---- a user that is told along the first edge that is left

module _ (inputs : ℕ → Awaited) (memos : List NodeState) (edge : Edge) (w : ℕ) (memo : NodeState)
    (left : List Edge) (at : slice_get memos edge.user ≡ Some memo)
    (it : slice_get (all_of (inputs edge.user)) edge.index ≡ Some w)
    (have : HaveHeard inputs memos (edge ∷ left)) where
  abbrev state : ℕ → State
  state = kept (states_in memos)

  abbrev hears : Hears (inputs edge.user) state (λ index. times edge.user index (edge ∷ left)) memo
  hears = have.each edge.user memo at

  abbrev told_news : List News
  told_news = set hears.heard edge.index (news_of (state w))

  low : edge.index < length hears.heard
  low = search (rules, slice_get_within)

  unheard : (slice_index_or hears.heard edge.index Open ≡ Open)
      × (times edge.user edge.index left ≡ 0)
  unheard = ⊎_elim
      (λ heard. absurd (omega (arith, heard.1, times-first edge left)))
      (λ unheard. (unheard.0, omega (arith, unheard.2, times-first edge left)))
      (hears.knows edge.index w it)

  hearing : CanHear (inputs edge.user) hears.heard memo edge.index w
  hearing = record {
    is = hears.is;
    unknown = slice_get-get_or _ _ _ low ∙ ap Some unheard.0;
    is_awaited = it;
  }

  -- what `told` requires
  pub can_hear : (heard : List News) × CanHear (inputs edge.user) heard memo edge.index w
  can_hear = (hears.heard, hearing)

  knows_told : (index input : ℕ) → slice_get (all_of (inputs edge.user)) index ≡ Some input
      → Knows (slice_index_or told_news index Open) (news_of (state input))
      (times edge.user index left)
  knows_told index input is = ⊎_elim
      (λ here.
      let same : index ≡ edge.index = eqb-true index edge.index here in
      let one : w ≡ input = same_element (all_of (inputs edge.user)) edge.index w _ it
      (subst (λ n. slice_get (all_of (inputs edge.user)) n ≡ Some input) same is) in
      inl (
        ap (λ n. get_or told_news n Open) same
            ∙ get_or-set_same hears.heard edge.index (news_of (state w)) Open low
            ∙ ap (λ n. news_of (state n)) one,
        ap (λ n. times edge.user n left) same ∙ unheard.1,
      ))
      (λ other.
      let apart : index ≡ edge.index → ⊥ = eqb-false index edge.index other in
      subst (λ n. Knows n (news_of (state input)) (times edge.user index left))
      (sym (get_or-set_other hears.heard edge.index index (news_of (state w)) Open apart))
      (subst (λ n. Knows (get_or hears.heard index Open) (news_of (state input)) n)
      (times-other_index _ _ _ _ apart) (hears.knows index input is)))
      (cases_Bool (index == edge.index))

  pub hears_told : (new : NodeState)
      → ((heard : List News) → CanHear (inputs edge.user) heard memo edge.index w
      → IsMemo (inputs edge.user) (slice_set heard edge.index (news_of (state w))) new)
      → Hears (inputs edge.user) state (λ index. times edge.user index left) new
  hears_told new told = search (rules, told_news, hearing, knows_told)

pub heard_told : (inputs : ℕ → Awaited) (count : ℕ) (users : List (List Edge))
    (memos : List NodeState) (edge : Edge) (w : ℕ) (memo new : NodeState) (left : List Edge)
    → length memos ≡ count → AreUsers (λ e. all_of (inputs e)) count users
    → slice_get memos edge.user ≡ Some memo
    → slice_get (all_of (inputs edge.user)) edge.index ≡ Some w
    → HaveHeard inputs memos (edge ∷ left)
    → ((heard : List News) → CanHear (inputs edge.user) heard memo edge.index w
    → IsMemo (inputs edge.user)
    (slice_set heard edge.index (news_of (kept (states_in memos) w))) new)
    → Turns memo.state new.state
    → HaveHeard inputs (slice_set memos edge.user new)
    (left ++ to_tell memo.state new.state (users_of users edge.user))
heard_told inputs count users memos edge w memo new left long are at it have told turns =
    heard_step _ count users memos edge.user memo new left long are at turns (edge ∷ left)
    (λ u index apart. times-other_user u _ _ _ apart) have
    (hears_told _ memos edge w memo left at it have new told)

-- ---- one more memo, in plan order

pub heard_more : (inputs : ℕ → Awaited) (memos : List NodeState) (memo : NodeState)
    → ((d i : ℕ) → Contains (all_of (inputs d)) i → i < d) → HaveHeard inputs memos []
    → Hears (inputs (length memos)) (kept (states_in memos)) (λ index. 0) memo
    → HaveHeard inputs (memos ++ memo ∷ []) []
heard_more inputs memos memo first have hears = record {
  each = λ d t is.
      ⊎_elim
      (λ earlier. grown d t (le_of_lt (slice_get_within memos d t earlier))
      (have.each d t earlier))
      (λ last.
      subst (λ n. Hears (inputs n) after (λ index. 0) t) (sym last.0)
      (subst (λ w. Hears (inputs (length memos)) after (λ index. 0) w) last.1
      (grown (length memos) memo (le_refl (length memos)) hears)))
      (get_push_cases _ _ d t is);
}
  where
    after : ℕ → State
    after = kept (states_in (memos ++ memo ∷ []))

    stays : (i : ℕ) → i < length memos → after i ≡ kept (states_in memos) i
    stays i low =
        ap (λ ss. get_or ss i Blocked) (map-append (λ (t : NodeState). t.state) memos (memo ∷ []))
        ∙ get_or_append_left (states_in memos) (memo.state ∷ []) Blocked i
        (omega (arith, low, length-map memos (λ (t : NodeState). t.state)))

    grown : (d : ℕ) (t : NodeState) → d ≤ length memos
        → Hears (inputs d) (kept (states_in memos)) (λ index. 0) t
        → Hears (inputs d) after (λ index. 0) t
    grown d t low =
        search (rules, hears_others, after, stays, lt_of_lt_of_le, Contains-from_get, low)

-- ---- once nothing is left to tell, the states are those by the nearest twins

-- what is known of each index is what is so
all_known : (awaited : Awaited) (heard : List News) (state : ℕ → State)
    → length heard ≡ length (all_of awaited)
    → ((index one : ℕ) → slice_get (all_of awaited) index ≡ Some one
    → slice_index_or heard index Open ≡ news_of (state one))
    → heard ≡ news_in state (all_of awaited)
all_known awaited heard state same known =
    ext_get_or Open heard (news_in state (all_of awaited))
    (same ∙ sym (length-map (all_of awaited) (λ i. news_of (state i))))
    (λ i low.
    let inside : i < length (all_of awaited) = omega (arith, low, same) in
    known i (get_or (all_of awaited) i 0) (slice_get-get_or _ i 0 inside)
    ∙ sym (get_or-map (λ n. news_of (state n)) _ i 0 _ inside))

news_of_parts : (state : ℕ → State) (xs ys : List ℕ)
    → (take (length xs) (news_in state (xs ++ ys)) ≡ news_in state xs)
    × (drop (length xs) (news_in state (xs ++ ys)) ≡ news_in state ys)
news_of_parts state [] ys = (refl, refl)
news_of_parts state (x ∷ xs) ys = search (rules, state, news_of_parts state xs ys)

pub heard_states : (rows : Rows) (memos : List NodeState) → IsInOrder rows
    → ((d : ℕ) (memo : NodeState) → slice_get memos d ≡ Some memo
    → (memo.precondition ≡ rows.precondition d) × (phase_in memo.state ≡ rows.phase d))
    → HaveHeard (λ d. record { inputs = rows.inputs d; twins = rows.twins d }) memos []
    → AreStatesOf rows (length memos) (states_in memos)
unfolding near_table
heard_states rows memos first stand have = near_are_one _ state _ first
    (λ d low. let (memo, at) = element_at _ d low in
    by_table d memo at (have.each d memo at))
  where
    state : ℕ → State
    state = kept (states_in memos)

    awaited : ℕ → Awaited
    awaited d = record { inputs = rows.inputs d; twins = rows.twins d }

    by_table : (d : ℕ) (memo : NodeState) → slice_get memos d ≡ Some memo
        → Hears (awaited d) state (λ index. 0) memo → state d ≡ near_table rows state d
    by_table d memo at hears =
        let is : state d ≡ memo.state =
        get_or_from_slice_get _ d _ _
        (get_mapped (λ (t : NodeState). t.state) memos d memo at) in
        let known : (index one : ℕ) → slice_get (all_of (awaited d)) index ≡ Some one
        → slice_index_or hears.heard index Open ≡ news_of (state one) =
        λ index one it. ⊎_elim (λ heard. heard.0) (λ unheard. absurd (omega (arith, unheard.2)))
        (hears.knows index one it) in
        let whole = all_known (awaited d) hears.heard state hears.is.count known in
        let parts = news_of_parts state (rows.inputs d) (rows.twins d) in
        let ins : of_inputs (awaited d) hears.heard ≡ news_in state (rows.inputs d) =
        ap (take (length (rows.inputs d))) whole ∙ parts.0 in
        let tws : of_twins (awaited d) hears.heard ≡ news_in state (rows.twins d) =
        ap (drop (length (rows.inputs d))) whole ∙ parts.1 in
        let (precondition, phase) = stand d memo at in
        is ∙ hears.is.state
        ∙ ap (λ l. by_phase (phase_in memo.state) (by_validity memo.precondition (by_twin_news
        (of_twins (awaited d) hears.heard) (by_hindrance memo.precondition
        (by_news (rows.inputs d) l))))) ins
        ∙ ap (λ l. by_phase (phase_in memo.state) (by_validity memo.precondition (by_twin_news l
        (by_hindrance memo.precondition
        (by_news (rows.inputs d) (news_in state (rows.inputs d))))))) tws
        ∙ ap (λ s. by_phase (phase_in memo.state) (by_validity memo.precondition (by_twin_news
        (news_in state (rows.twins d)) (by_hindrance memo.precondition s))))
        (by_news_in state (rows.inputs d))
        ∙ rw (precondition, phase) refl
