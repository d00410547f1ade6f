-- The states of derivations that are told of one that they wait for.
use Rattle.std.proofs.Common.{◌≡◌, ◌∙◌, ◌⊎◌, inl, inr, ⊎_elim, ℕ, ◌+◌, ◌-◌, ◌<◌, ◌≤◌, ◌==◌, ◌++◌, Bool, true, false, List, [], ◌∷◌, drop, length, map, take, get_or, set, Option, Some, None, zero, suc, refl, sym, ap, subst, ne_eqb, arith, Bor, option_copied, if◌then◌else◌, rules}
use Rattle.std.proofs.lemmas.Bool.{false≢true}
use Rattle.std.specs.Prelude.{All, slice_get, slice_set}
use Rattle.std.specs.List.{position_or_len}
use Rattle.std.specs.Slice.{IsItemAt}
use Rattle.std.proofs.lemmas.List.{append-nil, drop-set, drop_more, get_or-map, get_or-set_other, get_or-set_same, length-append, length-map, length-set, take-set}
use Rattle.std.proofs.lemmas.List.Folds.{position_or_len-set}
use Rattle.std.proofs.lemmas.List.Sums.{fails_before_first, passes_at_first, position_or_len_is}
use Rattle.std.proofs.lemmas.Option.{get_or_from_slice_get, none-some, same_Some, slice_get_past, slice_get_read, slice_get_within}
use Rattle.run_states.specs.StateTables.{Awaited, all_of, listed}
use Rattle.run_states.specs.StateLists.{kept, phase_in}
use Rattle.run_states.specs.Nearest.{News, Open, Good, Bad, news_of}
use Rattle.run_states.specs.States.{Idle, by_first, by_hindrance, by_phase, by_validity, is_good, is_open}
use Rattle.run_states.specs.NodeStates.{CanHear, Hears, IsMemo, by_all, by_news, is_bad_news, is_held, news_by, news_in, of_inputs, of_twins, states_in, waiting}
use Rattle.run_states.specs.declared.state.State.{State}
use Rattle.run_states.specs.declared.state.State.TheVariants.{Blocked, Building, Done, Failed, Ready, Refused, Reused}
use Rattle.run_states.specs.declared.precondition.Precondition.{Precondition}
use Rattle.run_states.specs.declared.node_states.NodeState.{NodeState}
use Rattle.run_states.proofs.CountedNews.{AreCounted, all_counted}
use Rattle.run_states.proofs.KnownNews.{by_news_counted}
use Rattle.run_states.proofs.OneStates.{not_released, released_now}
use Rattle.run_states.proofs.Tabled.{opening_is_idle, own_is_idle}

-- ---- parts of a list of news

take_set : {X : Type 0} (xs : List X) (n i : ℕ) (y : X) → i < n
    → take n (set xs i y) ≡ set (take n xs) i y
take_set [] zero i y low = absurd (omega (arith, low))
take_set [] (suc n) i y low = refl
take_set (x ∷ xs) zero i y low = absurd (omega (arith, low))
take_set (x ∷ xs) (suc n) zero y low = refl
take_set (x ∷ xs) (suc n) (suc i) y low = ap (λ l. x ∷ l) (take_set xs n i y (omega (arith, low)))

drop_set : {X : Type 0} (xs : List X) (n i : ℕ) (y : X) → i < n → drop n (set xs i y) ≡ drop n xs
drop_set [] zero i y low = absurd (omega (arith, low))
drop_set [] (suc n) i y low = refl
drop_set (x ∷ xs) zero i y low = absurd (omega (arith, low))
drop_set (x ∷ xs) (suc n) zero y low = refl
drop_set (x ∷ xs) (suc n) (suc i) y low = drop_set xs n i y (omega (arith, low))

get_taken : {X : Type 0} (xs : List X) (n i : ℕ) → i < n
    → slice_get (take n xs) i ≡ slice_get xs i
get_taken [] zero i low = absurd (omega (arith, low))
get_taken [] (suc n) i low = refl
get_taken (x ∷ xs) zero i low = absurd (omega (arith, low))
get_taken (x ∷ xs) (suc n) zero low = refl
get_taken (x ∷ xs) (suc n) (suc i) low = get_taken xs n i (omega (arith, low))

pub get_front : {X : Type 0} (xs ys : List X) (i : ℕ) → i < length xs
    → slice_get (xs ++ ys) i ≡ slice_get xs i
get_front [] ys i low = absurd (omega (arith, low))
get_front (x ∷ xs) ys zero low = refl
get_front (x ∷ xs) ys (suc i) low = get_front xs ys i (omega (arith, low))

length_taken : {X : Type 0} (xs : List X) (n : ℕ) → n ≤ length xs → length (take n xs) ≡ n
length_taken xs zero low = refl
length_taken [] (suc n) low = absurd (omega (arith, low))
length_taken (x ∷ xs) (suc n) low = ap suc (length_taken xs n (omega (arith, low)))

taken : {X : Type 0} (xs ys : List X) (n : ℕ) → n ≡ length xs → take n (xs ++ ys) ≡ xs
taken [] ys zero same = refl
taken [] ys (suc n) same = absurd (omega (arith, same))
taken (x ∷ xs) ys zero same = absurd (omega (arith, same))
taken (x ∷ xs) ys (suc n) same = ap (λ l. x ∷ l) (taken xs ys n (omega (arith, same)))

dropped : {X : Type 0} (xs ys : List X) (n : ℕ) → n ≡ length xs → drop n (xs ++ ys) ≡ ys
dropped [] ys zero same = refl
dropped [] ys (suc n) same = absurd (omega (arith, same))
dropped (x ∷ xs) ys zero same = absurd (omega (arith, same))
dropped (x ∷ xs) ys (suc n) same = dropped xs ys n (omega (arith, same))

-- ---- news of one more input

waiting-set : (heard : List News) (index : ℕ) (news : News) → slice_get heard index ≡ Some Open
    → waiting (set heard index news) + 1 ≡ waiting heard + waiting (news ∷ [])
waiting-set [] index news at = absurd (none-some Open at)
waiting-set (n ∷ heard) zero news at = search (rules, n, same_Some)
waiting-set (n ∷ heard) (suc index) news at = omega (arith, waiting-set heard index news at)

module _ (heard : List News) (index : ℕ) (at : slice_get heard index ≡ Some Open) where
  low : index < length heard
  low = slice_get_within heard index Open at

  here_now : (news : News) → get_or (set heard index news) index Open ≡ news
  here_now news = get_or-set_same heard index news Open low

  first-good : position_or_len is_bad_news (set heard index Good)
      ≡ position_or_len is_bad_news heard
  first-good = position_or_len-set is_bad_news heard index Good Open
      (sym (ap is_bad_news (get_or_from_slice_get heard index Open Open at)))

  first-bad : index < position_or_len is_bad_news heard
      → position_or_len is_bad_news (set heard index Bad) ≡ index
  first-bad sooner = position_or_len_is is_bad_news (set heard index Bad) index Open
      (omega (arith, low, length-set heard index Bad))
      (λ k under.
      ap is_bad_news (get_or-set_other heard index k Bad Open (λ same. omega (arith, same, under)))
      ∙ fails_before_first is_bad_news heard k Open (omega (arith, under, sooner)))
      (λ inside. ap is_bad_news (here_now Bad))

  first-later : position_or_len is_bad_news heard ≤ index
      → position_or_len is_bad_news (set heard index Bad) ≡ position_or_len is_bad_news heard
  first-later past =
      let first = position_or_len is_bad_news heard in
      let inside : position_or_len is_bad_news heard < length heard = omega (arith, past, low) in
      let bad = passes_at_first is_bad_news heard Open inside in
      let apart : position_or_len is_bad_news heard ≡ index → ⊥ =
      λ same. false≢true (sym (ap is_bad_news (get_or_from_slice_get heard index Open Open at))
      ∙ ap (λ n. is_bad_news (get_or heard n Open)) (sym same) ∙ bad) in
      position_or_len_is is_bad_news (set heard index Bad) (position_or_len is_bad_news heard) Open
      (omega (arith, past, low, length-set heard index Bad))
      (λ k under.
      ap is_bad_news (get_or-set_other heard index k Bad Open
      (λ same. omega (arith, same, under, past)))
      ∙ fails_before_first is_bad_news heard k Open under)
      (λ within.
      ap is_bad_news (get_or-set_other heard index (position_or_len is_bad_news heard) Bad Open
      apart) ∙ bad)

-- ---- a memo by what it counts

-- the state that it has by its counts
abbrev pub IsCounted : (awaited : Awaited) → List News → NodeState → Type 0
IsCounted awaited heard memo = memo.state
    ≡ by_phase (phase_in memo.state) (by_all memo.precondition (of_twins awaited heard)
    (by_first (slice_get awaited.inputs memo.first) (memo.waits == 0)))

by_counts : (inputs : List ℕ) (heard : List News) (memo : NodeState) → length heard ≡ length inputs
    → memo.waits ≡ waiting heard → memo.first ≡ position_or_len is_bad_news heard
    → by_news inputs heard ≡ by_first (slice_get inputs memo.first) (memo.waits == 0)
by_counts inputs heard memo same waits first = search (rules, by_news_counted, same)

-- of so much is known, of the inputs at least
inputs_known : (awaited : Awaited) (heard : List News) → length heard ≡ length (all_of awaited)
    → length awaited.inputs ≤ length heard
inputs_known awaited heard count = search (rules, count, length-append)

count_of_inputs : (awaited : Awaited) (heard : List News) → length heard ≡ length (all_of awaited)
    → length (of_inputs awaited heard) ≡ length awaited.inputs
count_of_inputs awaited heard count = search (rules, length_taken, inputs_known, count)

pub memo_from_counts : (awaited : Awaited) (heard : List News) (memo : NodeState)
    → length awaited.twins ≤ 1 → length heard ≡ length (all_of awaited)
    → memo.inputs ≡ length awaited.inputs → memo.waits ≡ waiting (of_inputs awaited heard)
    → memo.first ≡ position_or_len is_bad_news (of_inputs awaited heard)
    → memo.failed ≡ slice_get awaited.inputs memo.first
    → memo.held ≡ is_held (of_twins awaited heard) → IsCounted awaited heard memo
    → IsMemo awaited heard memo
memo_from_counts awaited heard memo one count inputs waits first failed held is =
    search (rules, count, by_counts, count_of_inputs)

-- the element that a look-up in a slice gives
pub read_at : (xs : List ℕ) (i : ℕ) (r : Option (Bor ℕ)) → IsItemAt xs i r
    → option_copied r ≡ slice_get xs i
read_at xs i None is_item = sym (slice_get_past xs i is_item.3)
read_at xs i (Some x) is_item = search (rules, slice_get_read)

-- ---- a memo that is told of an input

-- an index that isn't the twin's is an input's
pub is_input : (memo : NodeState) (awaited : Awaited) (heard : List News) (index one : ℕ)
    → CanHear awaited heard memo index one → (index ≡ memo.inputs → ⊥) → index < memo.inputs
is_input memo awaited heard index one can apart =
    let within : index < length (all_of awaited) =
    slice_get_within (all_of awaited) index one can.is_awaited in
    ⊎_elim (λ same. absurd (apart same))
    (λ other. ⊎_elim (λ low. low)
    (λ past. absurd (omega (
      arith,
      past,
      within,
      can.is.one,
      can.is.inputs,
      length-append awaited.inputs awaited.twins,
    ))) other)
    (either index memo.inputs)
  where
    either : (a b : ℕ) → (a ≡ b) ⊎ ((a < b) ⊎ (b < a))
    either zero zero = inl refl
    either zero (suc b) = inr (inl (omega arith))
    either (suc a) zero = inr (inr (omega arith))
    either (suc a) (suc b) = search (rules, either a b)

module _ (memo : NodeState) (awaited : Awaited) (heard : List News) (index input : ℕ)
    (can : CanHear awaited heard memo index input) (low : index < memo.inputs) where
  abbrev ins : List News
  ins = of_inputs awaited heard

  abbrev tws : List News
  tws = of_twins awaited heard

  inside : index < length awaited.inputs
  inside = omega (arith, low, can.is.inputs)

  input_is : slice_get awaited.inputs index ≡ Some input
  input_is = search (rules, get_front, inside)

  unknown : slice_get ins index ≡ Some Open
  unknown = search (rules, get_taken, inside)

  ins_now : (news : News) → of_inputs awaited (set heard index news) ≡ set ins index news
  ins_now news = search (rules, take_set, inside)

  tws_now : (news : News) → of_twins awaited (set heard index news) ≡ tws
  tws_now news = search (rules, drop_set, inside)

  number : (news : News)
      → waiting (of_inputs awaited (set heard index news)) + 1 ≡ memo.waits + waiting (news ∷ [])
  number news = search (rules, ins_now, waiting-set, ins, unknown)

  count : (news : News) → length (set heard index news) ≡ length (all_of awaited)
  count news = length-set heard index news ∙ can.is.count

  held_now : (news : News) → memo.held ≡ is_held (of_twins awaited (set heard index news))
  held_now news = search (rules, tws_now)

  -- an input isn't built yet
  pub told_waits : 1 ≤ memo.waits
  told_waits =
      let none : waiting (Good ∷ []) ≡ 0 = refl in
      omega (arith, number Good, none)

  pub told_held : memo.held ≡ is_held tws
  told_held = can.is.held

  pub told_before : memo.state ≡ by_phase (phase_in memo.state)
      (by_all memo.precondition tws (by_first (slice_get awaited.inputs memo.first) false))
  told_before = can.is.state
      ∙ ap (λ s. by_phase (phase_in memo.state) (by_all memo.precondition tws s))
      (by_counts awaited.inputs ins memo (count_of_inputs awaited heard can.is.count) can.is.waits
      can.is.first
      ∙ ap (by_first (slice_get awaited.inputs memo.first))
      (ne_eqb memo.waits 0 (λ none. omega (arith, none, told_waits))))

  pub told_good : (good : Bool) → good ≡ true → (state : State)
      → state ≡ by_phase (phase_in state) (by_all memo.precondition tws
      (by_first (slice_get awaited.inputs memo.first) ((memo.waits - 1) == 0)))
      → IsMemo awaited (slice_set heard index (news_by good))
      (record memo { state = state; waits = memo.waits - 1 })
  told_good good built state is =
      let none : waiting (Good ∷ []) ≡ 0 = refl in
      rw built (memo_from_counts awaited (set heard index Good)
      (record memo { state = state; waits = memo.waits - 1 }) can.is.one (count Good)
      can.is.inputs
      (omega (arith, number Good, none))
      (can.is.first ∙ sym (ap (position_or_len is_bad_news) (ins_now Good)
      ∙ first-good ins index unknown)) can.is.failed (held_now Good)
      (is ∙ ap (λ t. by_phase (phase_in state) (by_all memo.precondition t
      (by_first (slice_get awaited.inputs memo.first) ((memo.waits - 1) == 0))))
      (sym (tws_now Good))))

  pub told_bad : (good : Bool) → good ≡ false → index < memo.first → (state : State)
      → state ≡ by_phase (phase_in state)
      (by_all memo.precondition tws (by_first (Some input) false))
      → IsMemo awaited (slice_set heard index (news_by good))
      (record memo { state = state; first = index; failed = Some input })
  told_bad good failed sooner state is =
      let one : waiting (Bad ∷ []) ≡ 1 = refl in
      rw failed (memo_from_counts awaited (set heard index Bad)
      (record memo { state = state; first = index; failed = Some input }) can.is.one (count Bad)
      can.is.inputs
      (omega (arith, number Bad, one))
      (sym (ap (position_or_len is_bad_news) (ins_now Bad)
      ∙ first-bad ins index unknown (omega (arith, sooner, can.is.first))))
      (sym input_is) (held_now Bad)
      (is ∙ ap (λ t. by_phase (phase_in state)
      (by_all memo.precondition t (by_first (Some input) false))) (sym (tws_now Bad))
      ∙ ap (λ s. by_phase (phase_in state)
      (by_all memo.precondition (of_twins awaited (set heard index Bad)) s))
      (sym (ap (λ o. by_first o (memo.waits == 0)) input_is
      ∙ ap (by_first (Some input)) (ne_eqb memo.waits 0
      (λ none. omega (arith, none, told_waits)))))))

  pub told_later : (good : Bool) → good ≡ false → memo.first ≤ index
      → IsMemo awaited (slice_set heard index (news_by good)) memo
  told_later good failed past =
      search (
        rules,
        memo_from_counts,
        set,
        count,
        number,
        ins_now,
        first-later,
        ins,
        unknown,
        held_now,
        tws,
        by_counts,
        count_of_inputs,
        tws_now,
      )

-- ---- a memo that is told of its twin

module _ (memo : NodeState) (awaited : Awaited) (heard : List News) (twin : ℕ)
    (can : CanHear awaited heard memo memo.inputs twin) where
  abbrev n : ℕ
  n = length awaited.inputs

  abbrev others : List News
  others = drop (n + 1) heard

  unknown_twin : slice_get heard n ≡ Some Open
  unknown_twin = search rules

  twin_within : n < length heard
  twin_within = slice_get_within heard n Open unknown_twin

  told_now : (news : News) → set heard memo.inputs news ≡ set heard n news
  told_now news = search (rules, set)

  abbrev by_own : State
  by_own = by_first (slice_get awaited.inputs memo.first) (memo.waits == 0)

  pub released_before : memo.state
      ≡ by_phase (phase_in memo.state) (by_all memo.precondition (Open ∷ others) by_own)
  released_before = can.is.state
      ∙ ap (λ t. by_phase (phase_in memo.state) (by_all memo.precondition t
      (by_news awaited.inputs (of_inputs awaited heard)))) (drop_more heard n Open twin_within
      ∙ ap (λ x. x ∷ others) (get_or_from_slice_get heard n Open Open unknown_twin))
      ∙ ap (λ s. by_phase (phase_in memo.state) (by_all memo.precondition (Open ∷ others) s))
      (by_counts awaited.inputs (of_inputs awaited heard) memo
      (count_of_inputs awaited heard can.is.count) can.is.waits can.is.first)

  pub released_is : (good : Bool) (state : State)
      → state ≡ by_phase (phase_in state) (by_all memo.precondition (news_by good ∷ others) by_own)
      → IsMemo awaited (slice_set heard memo.inputs (news_by good))
      (record memo { state = state; held = false })
  released_is good state is =
      subst (λ l. IsMemo awaited l (record memo { state = state; held = false }))
      (sym (told_now (news_by good)))
      (memo_from_counts awaited (set heard n (news_by good))
      (record memo { state = state; held = false }) can.is.one
      (length-set heard n (news_by good) ∙ can.is.count) can.is.inputs
      (can.is.waits ∙ sym (ap waiting same))
      (can.is.first ∙ sym (ap (position_or_len is_bad_news) same)) can.is.failed
      (sym (ap is_held front ∙ ended good))
      (is ∙ ap (λ t. by_phase (phase_in state) (by_all memo.precondition t by_own)) (sym front)))
    where
      same : of_inputs awaited (set heard n (news_by good)) ≡ of_inputs awaited heard
      same = take-set heard n (news_by good)

      front : of_twins awaited (set heard n (news_by good)) ≡ news_by good ∷ others
      front = drop-set heard n (news_by good) twin_within

      ended : (good : Bool) → is_held (news_by good ∷ others) ≡ false
      ended true = refl
      ended false = refl

  blocked_before : memo.state ≡ Blocked
      → Blocked ≡ by_all memo.precondition (Open ∷ others) by_own
  blocked_before blocked = search (rules, others, by_own, released_before)

  pub released_good : (good : Bool) → good ≡ true → memo.state ≡ Blocked
      → IsMemo awaited (slice_set heard memo.inputs (news_by good))
      (record memo { state = Reused; held = false })
  released_good good built blocked = released_is good Reused
      (sym (ap (λ b. if b then Reused else by_hindrance memo.precondition by_own) built)
      ∙ released_now memo.precondition others by_own good (blocked_before blocked))

  pub released_bad : (good : Bool) (state : State) → good ≡ false → memo.state ≡ Blocked
      → state ≡ by_hindrance memo.precondition (by_first memo.failed (memo.waits == 0))
      → IsMemo awaited (slice_set heard memo.inputs (news_by good))
      (record memo { state = state; held = false })
  released_bad good state failed blocked own = released_is good state
      (same ∙ sym (ap (λ p. by_phase p (by_all memo.precondition (news_by good ∷ others) by_own))
      (ap phase_in same ∙ rests)))
    where
      own_here : state ≡ by_hindrance memo.precondition by_own
      own_here = search (rules, own)

      same : state ≡ by_all memo.precondition (news_by good ∷ others) by_own
      same = search (rules, own_here, by_own, released_now, others, blocked_before)

      rests : phase_in (by_all memo.precondition (news_by good ∷ others) by_own) ≡ Idle
      rests = search (rules, same, own_here, own_is_idle)

  pub released_else : (good : Bool) → (memo.state ≡ Blocked → ⊥)
      → IsMemo awaited (slice_set heard memo.inputs (news_by good))
      (record memo { held = false })
  released_else good apart =
      search (rules, released_is, not_released, others, by_own, released_before)

-- ---- a memo that was counted

module _ (precondition : Precondition) (wanted : Bool) (twin : Option ℕ) (inputs : List ℕ)
    (state_of : ℕ → State) (index waits first : ℕ) (state : State) (held : Bool)
    (past : length inputs ≤ index) (within : index ≤ length inputs)
    (are : AreCounted (news_in state_of inputs) index waits first)
    (says : held ≡ is_held (map (λ t. Open) (listed twin)))
    (is : state ≡ by_validity precondition (if held then Blocked
    else by_hindrance precondition (by_first (slice_get inputs first) (waits == 0)))) where
  abbrev awaited_here : Awaited
  awaited_here = record { inputs = inputs; twins = listed twin }

  abbrev known : List News
  known = news_in state_of inputs

  abbrev unheard : List News
  unheard = map (λ t. Open) (listed twin)

  abbrev own : State
  own = by_first (slice_get inputs first) (waits == 0)

  long : length known ≡ length inputs
  long = length-map inputs (λ i. news_of (state_of i))

  counts : (waits ≡ waiting known) × (first ≡ position_or_len is_bad_news known)
  counts = all_counted known index waits first (omega (arith, long, past))
      (omega (arith, long, within)) are

  front : of_inputs awaited_here (known ++ unheard) ≡ known
  front = taken known unheard (length inputs) (sym long)

  back : of_twins awaited_here (known ++ unheard) ≡ unheard
  back = dropped known unheard (length inputs) (sym long)

  idle : phase_in state ≡ Idle
  idle = search (rules, opening_is_idle)

  at_most_one : (twin : Option ℕ) → length (listed twin) ≤ 1
  at_most_one None = omega arith
  at_most_one (Some t) = omega arith

  by_twin : (twin : Option ℕ) (held : Bool) → held ≡ is_held (map (λ t. Open) (listed twin))
      → by_validity precondition (if held then Blocked else by_hindrance precondition own)
      ≡ by_all precondition (map (λ t. Open) (listed twin)) own
  by_twin None held says = rw says refl
  by_twin (Some t) held says = rw says refl

  -- the memo of one that waits for these, of all but the twin of which the news are known
  pub counted_memo : IsMemo awaited_here (known ++ unheard) (record {
    precondition = precondition;
    wanted = wanted;
    twin = twin;
    state = state;
    inputs = length inputs;
    waits = waits;
    first = first;
    failed = slice_get inputs first;
    held = held;
  })
  counted_memo =
      memo_from_counts awaited_here (known ++ unheard) (record {
        precondition = precondition;
        wanted = wanted;
        twin = twin;
        state = state;
        inputs = length inputs;
        waits = waits;
        first = first;
        failed = slice_get inputs first;
        held = held;
      }) (at_most_one twin)
      (length-append known unheard ∙ ap (λ k. k + length unheard) long
      ∙ ap (λ k. length inputs + k) (length-map (listed twin) (λ t. Open))
      ∙ sym (length-append inputs (listed twin)))
      refl (counts.0 ∙ sym (ap waiting front))
      (counts.1 ∙ sym (ap (position_or_len is_bad_news) front))
      refl (says ∙ sym (ap is_held back))
      (is ∙ by_twin twin held says ∙ ap (λ t. by_all precondition t own) (sym back)
      ∙ ap (λ p. by_phase p (by_all precondition (of_twins awaited_here (known ++ unheard)) own))
      (sym idle))

-- where all is known, each index has the news of what stands there
pub hears_all : (awaited : Awaited) (state_of : ℕ → State) (heard : List News) (memo : NodeState)
    → IsMemo awaited heard memo → heard ≡ news_in state_of (all_of awaited)
    → Hears awaited state_of (λ index. 0) memo
hears_all awaited state_of heard memo is all = record {
  heard = heard;
  is = is;
  knows = λ index one at. inl (
    ap (λ l. get_or l index Open) all
        ∙ get_or-map (λ i. news_of (state_of i)) (all_of awaited) index 0 Open
        (slice_get_within (all_of awaited) index one at)
        ∙ ap (λ i. news_of (state_of i)) (get_or_from_slice_get (all_of awaited) index one 0 at),
    refl,
  );
}

-- ---- a memo that was counted, and is told of its twin

get_last : {X : Type 0} (xs : List X) (y : X) (n : ℕ) → n ≡ length xs
    → slice_get (xs ++ y ∷ []) n ≡ Some y
get_last [] y zero same = refl
get_last [] y (suc n) same = absurd (omega (arith, same))
get_last (x ∷ xs) y zero same = absurd (omega (arith, same))
get_last (x ∷ xs) y (suc n) same = get_last xs y n (omega (arith, same))

set_last : {X : Type 0} (xs : List X) (y z : X) (n : ℕ) → n ≡ length xs
    → set (xs ++ y ∷ []) n z ≡ xs ++ z ∷ []
set_last [] y z zero same = refl
set_last [] y z (suc n) same = absurd (omega (arith, same))
set_last (x ∷ xs) y z zero same = absurd (omega (arith, same))
set_last (x ∷ xs) y z (suc n) same = ap (λ l. x ∷ l) (set_last xs y z n (omega (arith, same)))

news_push : (state_of : ℕ → State) (inputs : List ℕ) (t : ℕ)
    → news_in state_of inputs ++ news_of (state_of t) ∷ [] ≡ news_in state_of (inputs ++ t ∷ [])
news_push state_of [] t = refl
news_push state_of (i ∷ is) t = search (rules, news_push state_of is t)

-- of one that has nothing before it there is news
news_closed : (s : State) → is_open s ≡ false → news_by (is_good s) ≡ news_of s
news_closed Done closed = refl
news_closed Reused closed = refl
news_closed (Failed reason) closed = refl
news_closed (Refused cause) closed = refl
news_closed (Building lease) closed = absurd (false≢true (sym closed))
news_closed Ready closed = absurd (false≢true (sym closed))
news_closed Blocked closed = absurd (false≢true (sym closed))

news_open : (s : State) → is_open s ≡ true → Open ≡ news_of s
news_open Done is = absurd (false≢true is)
news_open Reused is = absurd (false≢true is)
news_open (Failed reason) is = absurd (false≢true is)
news_open (Refused cause) is = absurd (false≢true is)
news_open (Building lease) is = refl
news_open Ready is = refl
news_open Blocked is = refl

module _ (inputs : List ℕ) (t : ℕ) (state_of : ℕ → State) (memo : NodeState)
    (is : IsMemo (record { inputs = inputs; twins = t ∷ [] })
    (news_in state_of inputs ++ Open ∷ []) memo) where
  abbrev with_twin : Awaited
  with_twin = record { inputs = inputs; twins = t ∷ [] }

  abbrev opened : List News
  opened = news_in state_of inputs ++ Open ∷ []

  at_end : memo.inputs ≡ length (news_in state_of inputs)
  at_end = search (rules, length-map)

  pub can_release : CanHear with_twin opened memo memo.inputs t
  can_release = search (rules, unknown, get_last, at_end)

  pub hears_open : is_open (state_of t) ≡ true
      → Hears with_twin state_of (λ index. 0) memo
  hears_open still = hears_all with_twin state_of opened memo is
      (ap (λ n. news_in state_of inputs ++ n ∷ []) (news_open (state_of t) still)
      ∙ news_push state_of inputs t)

  pub hears_released : (good : Bool) (result : NodeState) → good ≡ is_good (state_of t)
      → is_open (state_of t) ≡ false
      → ((awaited : Awaited) (heard : List News) (twin : ℕ)
      → CanHear awaited heard memo memo.inputs twin
      → IsMemo awaited (slice_set heard memo.inputs (news_by good)) result)
      → Hears with_twin state_of (λ index. 0) result
  hears_released good result says closed told =
      hears_all with_twin state_of (set opened memo.inputs (news_by good)) result
      (told with_twin opened t can_release)
      (set_last (news_in state_of inputs) Open (news_by good) memo.inputs at_end
      ∙ ap (λ n. news_in state_of inputs ++ n ∷ [])
      (ap news_by says ∙ news_closed (state_of t) closed)
      ∙ news_push state_of inputs t)

-- one that waits for its inputs alone
pub hears_inputs : (inputs : List ℕ) (state_of : ℕ → State) (memo : NodeState)
    → IsMemo (record { inputs = inputs; twins = [] }) (news_in state_of inputs ++ []) memo
    → Hears (record { inputs = inputs; twins = [] }) state_of (λ index. 0) memo
hears_inputs inputs state_of memo is = search (rules, hears_all, append-nil)

-- the state that a memo holds, as it is kept
pub memo_state : (memos : List NodeState) (t : ℕ) (none : NodeState) → t < length memos
    → (get_or memos t none).state ≡ kept (states_in memos) t
memo_state memos t none low = search (rules, get_or-map, low)

-- what is listed of a number that is there
pub listed_low : (twin : Option ℕ) (t bound : ℕ) → twin ≡ Some t
    → All (λ u. u < bound) (listed twin)
    → t < bound
listed_low twin t bound is low = search (rules, low)
