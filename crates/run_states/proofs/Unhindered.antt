-- A derivation that has begun was wanted, and nothing has come in its way since.
use Rattle.std.proofs.Common.{◌≡◌, ◌∙◌, ◌⊎◌, ℕ, true, List, [], ◌∷◌, ◌++◌, refl, sym, ap, subst, ⊎_elim, rules}
use Rattle.std.specs.Prelude.{Contains, find}
use Rattle.std.specs.List.{list_all, list_any}
use Rattle.drv_graph.specs.SoundGraphs.{IsSound}
use Rattle.run_states.specs.Legal.{IsLegal, begins, legal_begin, legal_done, legal_fail, legal_opening}
use Rattle.run_states.specs.Runs.{History, Run, rows_of, state_in}
use Rattle.run_states.specs.States.{Begun, Idle, Phase, Rows, by_inputs, is_bad, is_done, is_good, is_open, phase_of, state}
use Rattle.run_states.specs.declared.state.Event.{Event}
use Rattle.run_states.specs.declared.state.Event.TheVariants.{Begin, Done as Finish, Fail}
use Rattle.run_states.specs.declared.state.State.TheVariants.{Ready}
use Rattle.run_states.specs.declared.precondition.Precondition.TheVariants.{Free}
use Rattle.run_states.proofs.ClosedStates.{bad_is_closed, bad_is_not_done, closed_is_good, good_is_closed, good_not_bad, states_stay, all_from, none_bad}
use Rattle.run_states.proofs.EarlierTwins.{run_twins}
use Rattle.run_states.proofs.NearestTwins.{none_from, ready_ended}
use Rattle.run_states.proofs.PlanInputs.{rows_in_order}
use Rattle.run_states.proofs.Seeds.{all_good, ready_by}
use Rattle.run_states.proofs.Tests.{list_all_has}
use Rattle.run_states.proofs.Aside.{aside, state_aside}
use Rattle.run_states.proofs.OtherEvents.{number_of, same_or_other, phase_other, begun_not_idle}

-- Nothing but its own events is in the way of a derivation.
pub record IsUnhindered (rows : Rows) (d : ℕ) : Type 0 where
  pub free : rows.precondition d ≡ Free
  pub spent : (t : ℕ) → Contains (rows.twins d) t → is_bad (state rows t) ≡ true
  pub good : (i : ℕ) → Contains (rows.inputs d) i → is_good (state rows i) ≡ true

-- such a derivation is ready, its own events aside
pub unhindered_ready : (rows : Rows) (d : ℕ) → IsUnhindered rows d
    → aside rows (state rows) d ≡ Ready
unhindered_ready rows d un =
    search (rules, rows, none_from, bad_is_not_done, bad_is_closed, none_bad, all_from)

-- and back
pub ready_unhindered : (run : Run) (history : History) → IsSound run.graph → (d : ℕ)
    → state_in run history d ≡ Ready
    → IsUnhindered (rows_of run history.opening history.events) d
ready_unhindered run history sound d ready =
    let rows = rows_of run history.opening history.events in
    let f = state rows in
    let facts = ready_by (rows.phase d) (rows.precondition d)
    (list_any (λ t. is_done (f t)) (rows.twins d)) (list_any (λ t. is_open (f t)) (rows.twins d))
    (by_inputs f (rows.inputs d))
    (sym (state_aside rows (rows_in_order run history.opening history.events sound) d
    (rows.phase d) refl) ∙ ready) in
    let good = all_good (find (λ i. is_bad (f i)) (rows.inputs d))
    (list_all (λ i. is_good (f i)) (rows.inputs d)) facts.open_is in
    record {
      free = facts.free;
      spent = λ t has. ready_ended rows (run_twins run history.opening history.events) d t ready
          has;
      good = λ i has. list_all_has (λ j. is_good (f j)) (rows.inputs d) i good has;
    }

-- ---- where an event is of a derivation that was open

module _ (rows : Rows) (phase : ℕ → Phase)
    (moves : (d : ℕ) → (phase d ≡ rows.phase d) ⊎ (is_open (state rows d) ≡ true)) where
  abbrev next_rows : Rows
  next_rows = record rows { phase = phase }

  good_stays : (i : ℕ) → is_good (state rows i) ≡ true → is_good (state next_rows i) ≡ true
  good_stays i good =
      search (
        rules,
        states_stay,
        rows,
        moves,
        good_is_closed,
        good,
        closed_is_good,
        next_rows,
        good_not_bad,
      )

  bad_stays : (i : ℕ) → is_bad (state rows i) ≡ true → is_bad (state next_rows i) ≡ true
  bad_stays i bad =
      (states_stay rows phase moves i (bad_is_closed (state rows i) bad)).2 ∙ bad

  unhindered_stays : (d : ℕ) → IsUnhindered rows d → IsUnhindered next_rows d
  unhindered_stays d un = record {
    free = un.free;
    spent = λ t has. bad_stays t (un.spent t has);
    good = λ i has. good_stays i (un.good i has);
  }

-- ---- where a derivation stands after one event more

-- an event of an open derivation leaves what is unhindered so
module _ (run : Run) (opening : _) (events : List Event) (x : Event)
    (still : is_open (state (rows_of run opening events) (number_of x)) ≡ true) where
  abbrev rows : Rows
  rows = rows_of run opening events

  moves : (d : ℕ) → (phase_of (events ++ x ∷ []) d ≡ phase_of events d)
      ⊎ (is_open (state rows d) ≡ true)
  moves d = search (rules, rows, phase_other, same_or_other, number_of)

  pub after_event : (d : ℕ) → IsUnhindered rows d
      → IsUnhindered (rows_of run opening (events ++ x ∷ [])) d
  after_event d un = unhindered_stays rows (phase_of (events ++ x ∷ [])) moves d un

-- ---- in a legal history

pub building_is_open : (run : Run) → IsSound run.graph → (history : History) (d lease : ℕ)
    → phase_of history.events d ≡ Begun lease → is_open (state_in run history d) ≡ true
building_is_open run sound history d lease phase =
    ap is_open (state_aside (rows_of run history.opening history.events)
    (rows_in_order run history.opening history.events sound) d (Begun lease) phase)

module _ (run : Run) (sound : IsSound run.graph) where
  -- nothing but its own events is in the way of a derivation that has begun
  pub begun_unhindered : (history : History) → IsLegal run history → (d : ℕ)
      → (phase_of history.events d ≡ Idle → ⊥)
      → IsUnhindered (rows_of run history.opening history.events) d
  begun_unhindered _ (legal_opening entries journal) d moved = absurd (moved refl)
  begun_unhindered _ (legal_begin history e legal within wanted ready) d moved =
      after_event run history.opening history.events (Begin e (begins history.events))
      (ap is_open ready) d
      (⊎_elim
      (λ same. subst (IsUnhindered (rows_of run history.opening history.events)) same
      (ready_unhindered run history sound e ready))
      (λ other. begun_unhindered history legal d (λ idle. moved
      (phase_other history.events (Begin e (begins history.events)) d other ∙ idle)))
      (same_or_other e d))
  begun_unhindered _ (legal_done history e lease node infos entry legal phase at allowed is) d
      moved =
      after_event run history.opening history.events (Finish e lease)
      (building_is_open run sound history e lease phase) d
      (⊎_elim
      (λ same. begun_unhindered history legal d
      (λ idle. begun_not_idle (phase_of history.events d) lease
      (ap (phase_of history.events) (sym same) ∙ phase) idle))
      (λ other. begun_unhindered history legal d (λ idle. moved
      (phase_other history.events (Finish e lease) d other ∙ idle)))
      (same_or_other e d))
  begun_unhindered _ (legal_fail history e lease reason legal phase) d moved =
      after_event run history.opening history.events (Fail e lease reason)
      (building_is_open run sound history e lease phase) d
      (⊎_elim
      (λ same. begun_unhindered history legal d
      (λ idle. begun_not_idle (phase_of history.events d) lease
      (ap (phase_of history.events) (sym same) ∙ phase) idle))
      (λ other. begun_unhindered history legal d (λ idle. moved
      (phase_other history.events (Fail e lease reason) d other ∙ idle)))
      (same_or_other e d))
