-- What is closed stays as good or as bad as it is, whatever becomes of what is open.
use Rattle.std.proofs.Common.{◌≡◌, ◌∙◌, ◌⊎◌, ⊎_elim, ℕ, zero, suc, ◌<◌, ◌||◌, Bool, true, false, List, [], ◌∷◌, Option, Some, None, refl, sym, ap, subst, if◌then◌else◌, arith, rules}
use Rattle.std.specs.Prelude.{cond, find, Contains}
use Rattle.std.specs.List.{list_any, list_all}
use Rattle.std.proofs.lemmas.Bool.{cases_lt, false≢true, or_cases, or_left, or_parts, or_right, true≢false}
use Rattle.run_states.specs.States.{Begun, Broken, Ended, Idle, Phase, Rows, by_first, by_hindrance, by_inputs, by_phase, by_twins, by_validity, is_bad, is_done, is_good, is_open, state, table}
use Rattle.run_states.specs.declared.state.State.{State}
use Rattle.run_states.specs.declared.state.State.TheVariants.{Blocked, Building, Done, Failed, Ready, Refused, Reused}
use Rattle.run_states.specs.declared.precondition.Precondition.{Precondition}
use Rattle.run_states.specs.declared.precondition.Precondition.TheVariants.{AllValid, Free, Hindered}
use Rattle.run_states.proofs.StateLaws.{reads_at, state_at, state_past}
use Rattle.nix_names.proofs.Lists.{Contains-first, Contains-later}

done_is_closed : (s : State) → is_done s ≡ true → is_open s ≡ false
done_is_closed Done is = refl
done_is_closed Reused is = refl
done_is_closed (Failed reason) is = refl
done_is_closed (Refused cause) is = refl
done_is_closed (Building lease) is = absurd (false≢true is)
done_is_closed Ready is = absurd (false≢true is)
done_is_closed Blocked is = absurd (false≢true is)

pub bad_is_closed : (s : State) → is_bad s ≡ true → is_open s ≡ false
bad_is_closed Done is = refl
bad_is_closed Reused is = refl
bad_is_closed (Failed reason) is = refl
bad_is_closed (Refused cause) is = refl
bad_is_closed (Building lease) is = absurd (false≢true is)
bad_is_closed Ready is = absurd (false≢true is)
bad_is_closed Blocked is = absurd (false≢true is)

pub bad_is_not_done : (s : State) → is_bad s ≡ true → is_done s ≡ false
bad_is_not_done Done is = absurd (false≢true is)
bad_is_not_done Reused is = refl
bad_is_not_done (Failed reason) is = refl
bad_is_not_done (Refused cause) is = refl
bad_is_not_done (Building lease) is = refl
bad_is_not_done Ready is = refl
bad_is_not_done Blocked is = refl

pub good_not_bad : (s : State) → is_good s ≡ true → is_bad s ≡ false
good_not_bad Done good = refl
good_not_bad Reused good = refl
good_not_bad (Failed reason) good = absurd (false≢true good)
good_not_bad (Refused cause) good = absurd (false≢true good)
good_not_bad (Building lease) good = absurd (false≢true good)
good_not_bad Ready good = absurd (false≢true good)
good_not_bad Blocked good = absurd (false≢true good)

pub good_is_closed : (s : State) → is_good s ≡ true → is_open s ≡ false
good_is_closed Done good = refl
good_is_closed Reused good = refl
good_is_closed (Failed reason) good = refl
good_is_closed (Refused cause) good = refl
good_is_closed (Building lease) good = absurd (false≢true good)
good_is_closed Ready good = absurd (false≢true good)
good_is_closed Blocked good = absurd (false≢true good)

-- what is neither open nor bad is good
pub closed_is_good : (s : State) → is_open s ≡ false → is_bad s ≡ false → is_good s ≡ true
closed_is_good Done closed not_bad = refl
closed_is_good Reused closed not_bad = refl
closed_is_good (Failed reason) closed not_bad = absurd (true≢false not_bad)
closed_is_good (Refused cause) closed not_bad = absurd (true≢false not_bad)
closed_is_good (Building lease) closed not_bad = absurd (true≢false closed)
closed_is_good Ready closed not_bad = absurd (true≢false closed)
closed_is_good Blocked closed not_bad = absurd (true≢false closed)

-- what is closed stays as good or as bad
abbrev pub Stays : (before after : State) → Type 0
Stays before after = is_open before ≡ false
    → (is_open after ≡ false) × (is_done after ≡ is_done before) × (is_bad after ≡ is_bad before)

open_stays : (before after : State) → is_open before ≡ true → Stays before after
open_stays before after still closed = absurd (false≢true (sym closed ∙ still))

module _ (f g : ℕ → State) (stay : (i : ℕ) → Stays (f i) (g i)) where
  done_stays : (numbers : List ℕ) → list_any (λ t. is_done (f t)) numbers ≡ true
      → list_any (λ t. is_done (g t)) numbers ≡ true
  done_stays [] is = absurd (false≢true is)
  done_stays (n ∷ ns) is = ⊎_elim
      (λ here. or_left (is_done (g n)) (list_any (λ t. is_done (g t)) ns)
      ((stay n (done_is_closed (f n) here)).1 ∙ here))
      (λ later. or_right (is_done (g n)) (list_any (λ t. is_done (g t)) ns) (done_stays ns later))
      (or_cases (is_done (f n)) (list_any (λ t. is_done (f t)) ns) is)

  none_stays : (numbers : List ℕ) → list_any (λ t. is_done (f t)) numbers ≡ false
      → list_any (λ t. is_open (f t)) numbers ≡ false
      → (list_any (λ t. is_done (g t)) numbers ≡ false)
      × (list_any (λ t. is_open (g t)) numbers ≡ false)
  none_stays [] built still = (refl, refl)
  none_stays (n ∷ ns) built still =
      let one = or_parts (is_done (f n)) (list_any (λ t. is_done (f t)) ns) built in
      let two = or_parts (is_open (f n)) (list_any (λ t. is_open (f t)) ns) still in
      let here = stay n two.0 in
      let rest = none_stays ns one.1 two.1 in
      let not_done : is_done (g n) ≡ false = here.1 ∙ one.0 in
      let not_open : is_open (g n) ≡ false = here.0 in (
        ap (λ b. b || list_any (λ t. is_done (g t)) ns) not_done ∙ rest.0,
        ap (λ b. b || list_any (λ t. is_open (g t)) ns) not_open ∙ rest.1,
      )

  bad_stays : (numbers : List ℕ) (i : ℕ) → find (λ n. is_bad (f n)) numbers ≡ Some i
      → (j : ℕ) × (find (λ n. is_bad (g n)) numbers ≡ Some j)
  bad_stays [] i is = absurd cc
  bad_stays (n ∷ ns) i is =
      by (is_bad (f n)) (is_bad (g n)) refl refl is (bad_stays ns)
    where
      by : (old new : Bool) → is_bad (f n) ≡ old → is_bad (g n) ≡ new
          → cond old (Some n) (find (λ m. is_bad (f m)) ns) ≡ Some i
          → ((k : ℕ) → find (λ m. is_bad (f m)) ns ≡ Some k
          → (j : ℕ) × (find (λ m. is_bad (g m)) ns ≡ Some j))
          → (j : ℕ) × (cond (is_bad (g n)) (Some n) (find (λ m. is_bad (g m)) ns) ≡ Some j)
      by old true is_old is_new there rest =
          (n, ap (λ b. cond b (Some n) (find (λ m. is_bad (g m)) ns)) is_new)
      by true false is_old is_new there rest = search (rules, false≢true, bad_is_closed)
      by false false is_old is_new there rest = search rules

  first_stays : (x y : Option ℕ) (all more : Bool)
      → ((i : ℕ) → x ≡ Some i → (j : ℕ) × (y ≡ Some j)) → Stays (by_first x all) (by_first y more)
  first_stays (Some i) (Some j) all more found closed = (refl, refl, refl)
  first_stays (Some i) None all more found closed =
      let there = found i refl in let clash : None ≡ Some there.0 = there.1 in absurd cc
  first_stays None y true more found closed = absurd (true≢false closed)
  first_stays None y false more found closed = absurd (true≢false closed)

  hindrance_stays : (s : Precondition) (numbers : List ℕ)
      → Stays (by_hindrance s (by_inputs f numbers)) (by_hindrance s (by_inputs g numbers))
  hindrance_stays (Hindered cause) numbers closed = (refl, refl, refl)
  hindrance_stays AllValid numbers closed = search (rules, first_stays, bad_stays)
  hindrance_stays Free numbers closed = search (rules, first_stays, bad_stays)

-- by whether an earlier twin was built, and whether one is open, before and after
twins_stay : (built still : Bool) (o : State) (built' still' : Bool) (o' : State)
    → (built ≡ true → built' ≡ true)
    → (built ≡ false → still ≡ false → (built' ≡ false) × (still' ≡ false)) → Stays o o'
    → Stays (if built then Reused else if still then Blocked else o)
    (if built' then Reused else if still' then Blocked else o')
twins_stay true still o true still' o' kept none stay closed = (refl, refl, refl)
twins_stay true still o false still' o' kept none stay closed = absurd (false≢true (kept refl))
twins_stay false true o built' still' o' kept none stay closed = absurd (true≢false closed)
twins_stay false false o true still' o' kept none stay closed =
    absurd (true≢false (none refl refl).0)
twins_stay false false o false true o' kept none stay closed =
    absurd (true≢false (none refl refl).1)
twins_stay false false o false false o' kept none stay closed = stay closed

-- where a derivation stands by its last event as before
table_stays : (f g : ℕ → State) → ((i : ℕ) → Stays (f i) (g i)) → (p : Phase) (s : Precondition)
    (twins inputs : List ℕ)
    → Stays (by_phase p (by_validity s (by_twins f twins (by_hindrance s (by_inputs f inputs)))))
    (by_phase p (by_validity s (by_twins g twins (by_hindrance s (by_inputs g inputs)))))
table_stays f g stay p s twins inputs =
    by_event p (by_validity s (by_twins f twins (by_hindrance s (by_inputs f inputs))))
    (by_validity s (by_twins g twins (by_hindrance s (by_inputs g inputs)))) (valid s)
  where
    others : (t : Precondition) → Stays (by_twins f twins (by_hindrance t (by_inputs f inputs)))
        (by_twins g twins (by_hindrance t (by_inputs g inputs)))
    others t =
        twins_stay (list_any (λ u. is_done (f u)) twins) (list_any (λ u. is_open (f u)) twins)
        (by_hindrance t (by_inputs f inputs)) (list_any (λ u. is_done (g u)) twins)
        (list_any (λ u. is_open (g u)) twins) (by_hindrance t (by_inputs g inputs))
        (done_stays f g stay twins) (none_stays f g stay twins)
        (hindrance_stays f g stay t inputs)

    valid : (t : Precondition)
        → Stays (by_validity t (by_twins f twins (by_hindrance t (by_inputs f inputs))))
        (by_validity t (by_twins g twins (by_hindrance t (by_inputs g inputs))))
    valid AllValid closed = (refl, refl, refl)
    valid (Hindered cause) closed = others (Hindered cause) closed
    valid Free closed = others Free closed

    by_event : (q : Phase) (o o' : State) → Stays o o' → Stays (by_phase q o) (by_phase q o')
    by_event Idle o o' unmoved closed = unmoved closed
    by_event (Begun lease) o o' unmoved closed = absurd (true≢false closed)
    by_event Ended o o' unmoved closed = (refl, refl, refl)
    by_event (Broken reason) o o' unmoved closed = (refl, refl, refl)

-- where an event is of a derivation that was open
module _ (rows : Rows) (phase : ℕ → Phase)
    (moves : (d : ℕ) → (phase d ≡ rows.phase d) ⊎ (is_open (state rows d) ≡ true)) where
  abbrev next_rows : Rows
  next_rows = record rows { phase = phase }

  moved_stays : (a b c d : State) → a ≡ c → b ≡ d → Stays c d → Stays a b
  moved_stays a b c d first second stay = search rules

  below_stay : (bound d : ℕ) → d < bound → Stays (state rows d) (state next_rows d)
  unfolding state table
  below_stay zero d low = absurd (omega arith)
  below_stay (suc bound) d low = ⊎_elim
      (λ same.
      subst (λ p. Stays (state rows d) (by_phase p (by_validity (rows.precondition d)
      (by_twins after (rows.twins d) (by_hindrance (rows.precondition d)
      (by_inputs after (rows.inputs d))))))) (sym same)
      (table_stays before after (reads (below_stay bound)) (rows.phase d) (rows.precondition d)
      (rows.twins d) (rows.inputs d)))
      (λ still. open_stays (state rows d) (state next_rows d) still)
      (moves d)
    where
      before : ℕ → State
      before = reads_at (table rows) d

      after : ℕ → State
      after = reads_at (table next_rows) d

      reads : ((i : ℕ) → i < bound → Stays (state rows i) (state next_rows i)) → (i : ℕ)
          → Stays (before i) (after i)
      reads earlier i =
          search (
            rules,
            moved_stays,
            before,
            after,
            next_rows,
            state_at,
            open_stays,
            state_past,
            cases_lt,
          )

  pub states_stay : (d : ℕ) → Stays (state rows d) (state next_rows d)
  states_stay d = below_stay (suc d) d (omega arith)

-- ---- of some numbers

pub all_from : (f : ℕ → State) (numbers : List ℕ)
    → ((i : ℕ) → Contains numbers i → is_good (f i) ≡ true)
    → list_all (λ i. is_good (f i)) numbers ≡ true
all_from f [] good = refl
all_from f (i ∷ is) good =
    let here = good i (Contains-first i is) in
    let rest = all_from f is (λ j has. good j (Contains-later i is j has)) in
    rw (here, rest) refl

pub none_bad : (f : ℕ → State) (numbers : List ℕ)
    → ((i : ℕ) → Contains numbers i → is_good (f i) ≡ true)
    → find (λ i. is_bad (f i)) numbers ≡ None
none_bad f [] good = refl
none_bad f (i ∷ is) good =
    let here = good_not_bad (f i) (good i (Contains-first i is)) in
    let rest = none_bad f is (λ j has. good j (Contains-later i is j has)) in
    rw (here, rest) refl
