-- What holds of every legal history: one Begin for each derivation, one lease for each number.
use Rattle.std.proofs.Common.{◌≡◌, ◌⊎◌, inl, inr, ℕ, zero, suc, ◌+◌, ◌<◌, ◌≤◌, Bool, true, false, List, [], ◌∷◌, ◌++◌, length, Some, refl, sym, ◌∙◌, subst, ⊎_elim, arith, rules}
use Rattle.std.specs.Prelude.{slice_get, if◌then◌else◌}
use Rattle.std.proofs.Math.Dec.{eqb}
use Rattle.std.proofs.lemmas.List.Sums.{sum_by_push}
use Rattle.nix_drv.proofs.Fixed.{eqb_same}
use Rattle.run_states.specs.declared.state.Event.{Event}
use Rattle.run_states.specs.declared.state.Event.TheVariants.{Begin, Done as Finish, Fail}
use Rattle.run_states.specs.declared.state.State.{State}
use Rattle.run_states.specs.declared.state.State.TheVariants.{Building, Ready}
use Rattle.run_states.specs.Runs.{opened}
use Rattle.run_states.specs.Headline.{BeginsOnce, LeasesApart, LeasesBelow}
use Rattle.run_states.specs.Legal.{IsLegal, legal_opening, legal_begin, legal_done, legal_fail, begins}
use Rattle.run_states.specs.Runs.{History, Run, state_in}
use Rattle.run_states.specs.States.{Phase, Idle, Begun, Ended, Broken, phase_by, phase_of, later, state, table, by_phase}

-- what stands in a list with one element more stood there before, or is that element
pub at_push : {X : Type 0} (xs : List X) (y x : X) (i : ℕ) → slice_get (xs ++ y ∷ []) i ≡ Some x
    → (slice_get xs i ≡ Some x) ⊎ ((i ≡ length xs) × (y ≡ x))
at_push [] y x zero is = inr (refl, cc)
at_push [] y x (suc i) is = absurd cc
at_push (z ∷ zs) y x zero is = inl is
at_push (z ∷ zs) y x (suc i) is = search (rules, at_push zs y x i is)

later_first : (a b : Phase) → later a b ≡ Idle → a ≡ Idle
later_first a Idle is = is
later_first a (Begun n) is = absurd cc
later_first a Ended is = absurd cc
later_first a (Broken reason) is = absurd cc

later_second : (a b : Phase) → later a b ≡ Idle → b ≡ Idle
later_second a Idle is = refl
later_second a (Begun n) is = absurd cc
later_second a Ended is = absurd cc
later_second a (Broken reason) is = absurd cc

begin_is_no_rest : (d n : ℕ) → phase_by (Begin d n) d ≡ Idle → ⊥
begin_is_no_rest d n is = by (eqb d d) (eqb_same d) is
  where
    by : (same : Bool) → same ≡ true → (if same then Begun n else Idle) ≡ Idle → ⊥
    by true e is = absurd cc
    by false e is = absurd cc

-- a derivation that rests has not begun
pub idle_not_begun : (events : List Event) (d n i : ℕ) → phase_of events d ≡ Idle
    → slice_get events i ≡ Some (Begin d n) → ⊥
idle_not_begun [] d n i idle is = absurd cc
idle_not_begun (e ∷ es) d n zero idle is = search (rules, begin_is_no_rest, later_first)
idle_not_begun (e ∷ es) d n (suc i) idle is =
    idle_not_begun es d n i (later_second (phase_by e d) (phase_of es d) idle) is

ready_by_phase : (p : Phase) (s : State) → by_phase p s ≡ Ready → p ≡ Idle
ready_by_phase Idle s is = refl
ready_by_phase (Begun n) s is = absurd cc
ready_by_phase Ended s is = absurd cc
ready_by_phase (Broken reason) s is = absurd cc

-- a derivation that is ready rests
pub ready_is_idle : (run : Run) (history : History) (d : ℕ) → state_in run history d ≡ Ready
    → phase_of history.events d ≡ Idle
unfolding state table
ready_is_idle run history d is = ready_by_phase _ _ is

-- a derivation that has begun is building
pub building_from_begun : (run : Run) (history : History) (d lease : ℕ)
    → phase_of history.events d ≡ Begun lease → state_in run history d ≡ Building lease
unfolding state table
building_from_begun run history d lease is = rw is refl

-- what a legal history opens with is one
pub opening_legal : (run : Run) (history : History) → IsLegal run history
    → IsLegal run (opened history.opening)
opening_legal run _ (legal_opening entries journal) = legal_opening entries journal
opening_legal run _ (legal_begin history e legal within wanted ready) = opening_legal _ _ legal
opening_legal run _
    (legal_done history e lease node infos entry legal phase is_node allowed is_entry) =
    opening_legal _ _ legal
opening_legal run _ (legal_fail history e lease reason legal phase) = opening_legal _ _ legal

begins_push : (es : List Event) (e : Event) → begins es ≤ begins (es ++ e ∷ [])
begins_push es e = search (rules, sum_by_push)

begins_begin : (es : List Event) (d n : ℕ) → begins (es ++ Begin d n ∷ []) ≡ begins es + 1
begins_begin es d n = search (rules, sum_by_push)

pub leases_below : LeasesBelow
leases_below run _ (legal_opening entries journal) d n i is = absurd cc
leases_below run _ (legal_begin history e legal within wanted ready) d n i is =
    ⊎_elim
    (λ before. omega (
      arith,
      leases_below run history legal d n i before,
      begins_push history.events (Begin e (begins history.events)),
    ))
    (λ last. let same : begins history.events ≡ n = cc
    in omega (arith, begins_begin history.events e (begins history.events)))
    (at_push _ _ _ i is)
leases_below run _
    (legal_done history e lease node infos entry legal phase is_node allowed is_entry) d n i is =
    ⊎_elim
    (λ before. omega (
      arith,
      leases_below run history legal d n i before,
      begins_push history.events (Finish e lease),
    ))
    (λ last. absurd cc)
    (at_push _ _ _ i is)
leases_below run _ (legal_fail history e lease reason legal phase) d n i is =
    ⊎_elim
    (λ before. omega (
      arith,
      leases_below run history legal d n i before,
      begins_push history.events (Fail e lease reason),
    ))
    (λ last. absurd cc)
    (at_push _ _ _ i is)

pub leases_apart : LeasesApart
leases_apart run _ (legal_opening entries journal) d e n i j is other = absurd cc
leases_apart run _ (legal_begin history k legal within wanted ready) d e n i j is other =
    let count = begins history.events in
    let before : (x m : ℕ) → slice_get history.events m ≡ Some (Begin x n) → n
    < count = λ x m there. leases_below run history legal x n m there in
    ⊎_elim
    (λ here. ⊎_elim
    (λ there. leases_apart run history legal d e n i j here there)
    (λ last. let same : count ≡ n = cc in let low = before d i here in absurd (omega arith))
    (at_push history.events (Begin k count) (Begin e n) j other))
    (λ first. ⊎_elim
    (λ there. let same : count ≡ n = cc in let low = before e j there in absurd (omega arith))
    (λ last. first.0 ∙ sym last.0)
    (at_push history.events (Begin k count) (Begin e n) j other))
    (at_push history.events (Begin k count) (Begin d n) i is)
leases_apart run _
    (legal_done history k lease node infos entry legal phase is_node allowed is_entry) d e n i j is
    other =
    leases_apart run history legal d e n i j
    (⊎_elim (λ here. here) (λ last. absurd cc)
    (at_push _ _ _ i is))
    (⊎_elim (λ here. here) (λ last. absurd cc)
    (at_push _ _ _ j other))
leases_apart run _ (legal_fail history k lease reason legal phase) d e n i j is other =
    leases_apart run history legal d e n i j
    (⊎_elim (λ here. here) (λ last. absurd cc)
    (at_push _ _ _ i is))
    (⊎_elim (λ here. here) (λ last. absurd cc)
    (at_push _ _ _ j other))

pub begins_once : BeginsOnce
begins_once run _ (legal_opening entries journal) d n m i j is other = absurd cc
begins_once run _ (legal_begin history k legal within wanted ready) d n m i j is other =
    let count = begins history.events in
    let rests = ready_is_idle run history k ready in
    let apart : (x y : ℕ) → k ≡ d → slice_get history.events y ≡ Some (Begin d x) → ⊥ =
    λ x y same there. idle_not_begun history.events d x y
    (subst (λ z. phase_of history.events z ≡ Idle) same rests) there in
    ⊎_elim
    (λ here. ⊎_elim
    (λ there. begins_once run history legal d n m i j here there)
    (λ last. let same : k ≡ d = cc in absurd (apart n i same here))
    (at_push history.events (Begin k count) (Begin d m) j other))
    (λ first. ⊎_elim
    (λ there. let same : k ≡ d = cc in absurd (apart m j same there))
    (λ last. first.0 ∙ sym last.0)
    (at_push history.events (Begin k count) (Begin d m) j other))
    (at_push history.events (Begin k count) (Begin d n) i is)
begins_once run _ (legal_done history k lease node infos entry legal phase is_node allowed is_entry)
    d n m i j is other =
    begins_once run history legal d n m i j
    (⊎_elim (λ here. here) (λ last. absurd cc)
    (at_push _ _ _ i is))
    (⊎_elim (λ here. here) (λ last. absurd cc)
    (at_push _ _ _ j other))
begins_once run _ (legal_fail history k lease reason legal phase) d n m i j is other =
    begins_once run history legal d n m i j
    (⊎_elim (λ here. here) (λ last. absurd cc)
    (at_push _ _ _ i is))
    (⊎_elim (λ here. here) (λ last. absurd cc)
    (at_push _ _ _ j other))
