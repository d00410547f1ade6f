-- The table of foretold states has one solution, in which each derivation is built, reused or
-- refused.
use Rattle.std.proofs.Common.{◌≡◌, ◌∙◌, ◌⊎◌, inl, inr, ℕ, zero, suc, ◌<◌, Bool, true, false, List, [], ◌∷◌, Option, Some, None, refl, sym, ap, subst, arith, if◌then◌else◌, rules}
use Rattle.std.specs.Prelude.{Contains, cond, find}
use Rattle.std.specs.List.{list_all, list_any}
use Rattle.std.proofs.lemmas.Bool.{and_from, false≢true, true≢false}
use Rattle.nix_names.proofs.Lists.{Contains-first, Contains-later}
use Rattle.run_states.specs.States.{Idle, IsInOrder, Rows, by_first, by_hindrance, by_inputs, by_phase, by_twins, by_validity, is_bad, is_good, is_open}
use Rattle.run_states.specs.declared.state.Refusal.{Refusal}
use Rattle.run_states.specs.declared.state.State.{State}
use Rattle.run_states.specs.declared.state.State.TheVariants.{Blocked, Done, Refused, Reused}
use Rattle.run_states.specs.declared.precondition.Precondition.{Precondition}
use Rattle.run_states.specs.declared.precondition.Precondition.TheVariants.{AllValid, Hindered, Free}
use Rattle.run_states.proofs.ClosedStates.{closed_is_good}
use Rattle.run_states.proofs.NearestTwins.{none_from}
use Rattle.run_states.proofs.PlanInputs.{rows_in_order}
use Rattle.run_states.proofs.StateLaws.{reads_at, state_at}
use Rattle.run_report.specs.Forecasts.{ForecastsAgree, ForecastsAreClosed, ForecastsAreOne, built_if_ready, built_table, forecast}
use Rattle.run_states.proofs.Aside.{aside, aside_same, table_is}

-- ---- the equation and its uniqueness

-- what the table reads at a derivation is foretold
pub read_is : (rows : Rows) (d i : ℕ) → i < d
    → reads_at (built_table rows) d i ≡ forecast rows i
unfolding forecast
read_is rows d i less = state_at (built_table rows) d i less

-- by the states that are read
pub foretold_by : (rows : Rows) (d : ℕ)
    → forecast rows d ≡ built_table rows (reads_at (built_table rows) d) d
unfolding forecast
foretold_by rows d = refl

pub built_is : (rows : Rows) (f : ℕ → State) (d : ℕ)
    → built_table rows f d ≡ built_if_ready (by_phase (rows.phase d) (aside rows f d))
unfolding built_table
built_is rows f d = ap built_if_ready (table_is rows f d)

-- it gives the same where the states of smaller numbers are the same
below_same : (rows : Rows) → IsInOrder rows → (f g : ℕ → State) (d : ℕ)
    → ((i : ℕ) → i < d → f i ≡ g i) → built_table rows f d ≡ built_table rows g d
below_same rows order f g d same =
    built_is rows f d
    ∙ ap (λ s. built_if_ready (by_phase (rows.phase d) s))
    (aside_same rows f g d (λ free i has. same i (order.inputs d i has))
    (λ t has. same t (order.twins d t has)))
    ∙ sym (built_is rows g d)

pub forecasts_agree : ForecastsAgree
forecasts_agree rows d order = search (rules, foretold_by, below_same, reads_at, read_is)

one_below : (rows : Rows) (other : ℕ → State) (count : ℕ) → IsInOrder rows
    → ((d : ℕ) → d < count → other d ≡ built_table rows other d)
    → (bound d : ℕ) → d < bound → d < count → other d ≡ forecast rows d
one_below rows other count order meets zero d low below = absurd (omega arith)
one_below rows other count order meets (suc bound) d low below =
    meets d below
    ∙ below_same rows order other (forecast rows) d
    (λ i less. one_below rows other count order meets bound i (omega arith) (omega arith))
    ∙ sym (forecasts_agree rows d order)

pub forecasts_are_one : ForecastsAreOne
forecasts_are_one rows other count order meets d below =
    one_below rows other count order meets (suc d) d (omega arith) below

-- ---- what is foretold

-- built, reused or refused
abbrev pub IsClosed : State → Type 0
IsClosed s = (s ≡ Done) ⊎ (s ≡ Reused) ⊎ ((cause : Refusal) × (s ≡ Refused cause))

is_not_open : (s : State) → IsClosed s → is_open s ≡ false
is_not_open s (inl is) = ap is_open is
is_not_open s (inr (inl is)) = ap is_open is
is_not_open s (inr (inr refused)) = ap is_open refused.1

-- if no one of some closed states is bad, all are good
all_unless_bad : (f : ℕ → State) (numbers : List ℕ)
    → ((i : ℕ) → Contains numbers i → IsClosed (f i))
    → find (λ i. is_bad (f i)) numbers ≡ None → list_all (λ i. is_good (f i)) numbers ≡ true
all_unless_bad f [] closed none = refl
all_unless_bad f (n ∷ ns) closed none =
    by (is_bad (f n)) refl none
    (all_unless_bad f ns (λ i has. closed i (Contains-later n ns i has)))
  where
    by : (bad : Bool) → is_bad (f n) ≡ bad
        → cond bad (Some n) (find (λ i. is_bad (f i)) ns) ≡ None
        → (find (λ i. is_bad (f i)) ns ≡ None → list_all (λ i. is_good (f i)) ns ≡ true)
        → list_all (λ i. is_good (f i)) (n ∷ ns) ≡ true
    by true is none_here rest = search rules
    by false is none_here rest =
        search (rules, and_from, closed_is_good, is_not_open, Contains-first)

-- what can be begun is built, and after closed inputs nothing is blocked
closed_first : (first : Option ℕ) (all : Bool) → (first ≡ None → all ≡ true)
    → IsClosed (built_if_ready (by_first first all))
closed_first (Some i) all good = search rules
closed_first None true good = inl refl
closed_first None false good = absurd (false≢true (good refl))

closed_by_twins : (built still : Bool) (other : State) → still ≡ false
    → IsClosed (built_if_ready other)
    → IsClosed (built_if_ready (if built then Reused else if still then Blocked else other))
closed_by_twins true still other none closed = inr (inl refl)
closed_by_twins false true other none closed = absurd (true≢false none)
closed_by_twins false false other none closed = closed

closed_aside : (rows : Rows) (f : ℕ → State) (d : ℕ)
    → ((i : ℕ) → Contains (rows.inputs d) i → IsClosed (f i))
    → ((t : ℕ) → Contains (rows.twins d) t → IsClosed (f t))
    → IsClosed (built_if_ready (aside rows f d))
closed_aside rows f d inputs twins = by (rows.precondition d)
  where
    is_closed : IsClosed (built_if_ready (by_inputs f (rows.inputs d)))
    is_closed = search (rules, closed_first, all_unless_bad)

    none_open : list_any (λ t. is_open (f t)) (rows.twins d) ≡ false
    none_open = search (rules, none_from, is_not_open)

    beside : (other : State) → IsClosed (built_if_ready other)
        → IsClosed (built_if_ready (by_twins f (rows.twins d) other))
    beside other closed = search (rules, closed_by_twins, none_open)

    by : (s : Precondition) → IsClosed (built_if_ready (by_validity s (by_twins f (rows.twins d)
        (by_hindrance s (by_inputs f (rows.inputs d))))))
    by AllValid = inr (inl refl)
    by (Hindered cause) = search (rules, beside)
    by Free = beside (by_inputs f (rows.inputs d)) is_closed

closed_below : (rows : Rows) → IsInOrder rows → ((d : ℕ) → rows.phase d ≡ Idle)
    → (bound d : ℕ) → d < bound → IsClosed (forecast rows d)
closed_below rows order idle zero d low = absurd (omega arith)
closed_below rows order idle (suc bound) d low =
    subst IsClosed
    (sym (forecasts_agree rows d order ∙ built_is rows (forecast rows) d
    ∙ ap (λ p. built_if_ready (by_phase p (aside rows (forecast rows) d))) (idle d)))
    (closed_aside rows (forecast rows) d
    (λ i has. closed_below rows order idle bound i
    (let less : i < d = order.inputs d i has in omega arith))
    (λ t has. closed_below rows order idle bound t
    (let less : t < d = order.twins d t has in omega arith)))

pub forecasts_are_closed : ForecastsAreClosed
forecasts_are_closed run opening d sound = search (rules, closed_below, rows_in_order)
