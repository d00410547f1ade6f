-- Each event of a legal history is of a derivation of the plan.
use Rattle.std.proofs.Common.{◌≡◌, ◌<◌, ℕ, Bool, true, false, List, [], ◌∷◌, ◌++◌, All, length, refl, subst, rules}
use Rattle.std.specs.Prelude.{if◌then◌else◌}
use Rattle.std.proofs.Math.Dec.{eqb}
use Rattle.std.proofs.lemmas.Bool.{eqb-true}
use Rattle.std.proofs.lemmas.List.Elements.{All-cons, All-head, All-tail, All-append}
use Rattle.run_states.specs.declared.state.Event.{Event}
use Rattle.run_states.specs.declared.state.Event.TheVariants.{Begin, Done as Finish, Fail}
use Rattle.run_states.specs.Legal.{IsLegal, begins, legal_opening, legal_begin, legal_done, legal_fail}
use Rattle.run_states.specs.Runs.{History, Run}
use Rattle.run_states.specs.States.{Phase, Idle, Begun, Ended, Broken, later, phase_by, phase_of}
use Rattle.nix_realise.specs.private.Leases.{derivation_of}

-- a derivation that one event leaves begun is the event's
begun_by : (e : Event) (d lease count : ℕ) → derivation_of e < count → phase_by e d ≡ Begun lease
    → d < count
begun_by (Begin k n) d lease count below is = by (eqb k d) refl is
  where
    by : (same : Bool) → eqb k d ≡ same → (if same then Begun n else Idle) ≡ Begun lease → d < count
    by true same is = subst (λ m. m < count) (eqb-true k d same) below
    by false same is = absurd cc
begun_by (Finish k n) d lease count below is = by (eqb k d) is
  where
    by : (same : Bool) → (if same then Ended else Idle) ≡ Begun lease → d < count
    by true is = absurd cc
    by false is = absurd cc
begun_by (Fail k n reason) d lease count below is = by (eqb k d) is
  where
    by : (same : Bool) → (if same then Broken reason else Idle) ≡ Begun lease → d < count
    by true is = absurd cc
    by false is = absurd cc

-- a derivation that the first of some events leaves begun is of the plan, by the phase that the
-- others leave
after : (e : Event) (es : List Event) (d lease count : ℕ) (p : Phase) → phase_of es d ≡ p
    → derivation_of e < count → ((n : ℕ) → phase_of es d ≡ Begun n → d < count)
    → later (phase_by e d) p ≡ Begun lease → d < count
after e es d lease count Idle was below rest is = begun_by e d lease count below is
after e es d lease count (Begun n) was below rest is = rest n was
after e es d lease count Ended was below rest is = absurd cc
after e es d lease count (Broken reason) was below rest is = absurd cc

-- a derivation that has begun is that of an event
begun_within : (events : List Event) (d lease count : ℕ)
    → All (λ e. derivation_of e < count) events → phase_of events d ≡ Begun lease → d < count
begun_within [] d lease count each is = absurd cc
begun_within (e ∷ es) d lease count each is =
    after e es d lease count (phase_of es d) refl
    (All-head (λ x. derivation_of x < count) e es each)
    (λ n. begun_within es d n count (All-tail (λ x. derivation_of x < count) e es each)) is

-- one event more
within_push : (events : List Event) (e : Event) (count : ℕ)
    → All (λ e. derivation_of e < count) events → derivation_of e < count
    → All (λ e. derivation_of e < count) (events ++ e ∷ [])
within_push events e count each one =
    let within : Event → Type 0 = λ e. derivation_of e < count in
    All-append within events (e ∷ []) each (All-cons within e [] one (search rules))

pub events_within : (run : Run) (history : History) → IsLegal run history
    → All (λ e. derivation_of e < length run.graph.nodes) history.events
events_within run _ (legal_opening entries journal) = search rules
events_within run _ (legal_begin history d legal within wanted ready) =
    within_push history.events (Begin d (begins history.events)) (length run.graph.nodes)
    (events_within run history legal) within
events_within run _
    (legal_done history d lease node infos entry legal phase is_node allowed is_entry) =
    let each = events_within run history legal in
    within_push history.events (Finish d lease) (length run.graph.nodes) each
    (begun_within history.events d lease (length run.graph.nodes) each phase)
events_within run _ (legal_fail history d lease reason legal phase) =
    let each = events_within run history legal in
    within_push history.events (Fail d lease reason) (length run.graph.nodes) each
    (begun_within history.events d lease (length run.graph.nodes) each phase)
