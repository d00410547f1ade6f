-- A derivation that failed had begun, so each path that it is built from is valid.
use Rattle.std.proofs.Common.{◌≡◌, ◌∙◌, ◌++◌, ◌∷◌, ℕ, Bool, true, false, List, [], Option, Some, None, refl, sym, subst, rules}
use Rattle.std.specs.Prelude.{All, Contains, if◌then◌else◌, slice_get}
use Rattle.std.proofs.Math.Dec.{eqb}
use Rattle.std.proofs.lemmas.List.Elements.{Contains-append_left, Contains-append_right}
use Rattle.nix_names.proofs.Lists.{All-from_contains, Contains-first}
use Rattle.drv_graph.specs.Nodes.{Node}
use Rattle.valid_table.specs.Entries.{registered}
use Rattle.valid_table.specs.Valid.{IsValid}
use Rattle.build_outcome.specs.Jobs.{seeds_of}
use Rattle.build_outcome.specs.declared.reason.Reason.{Reason}
use Rattle.run_states.specs.Legal.{IsLegal, begins, legal_begin, legal_done, legal_fail, legal_opening}
use Rattle.run_states.specs.Runs.{History, Run, rows_of, state_in}
use Rattle.run_states.specs.StateTables.{StateTable}
use Rattle.run_states.specs.States.{Phase, Idle, Begun, Ended, Broken, by_first, by_hindrance, by_validity, is_done, is_open, later, phase_of}
use Rattle.run_states.specs.Systems.{Platform}
use Rattle.run_states.specs.declared.precondition.Precondition.{Precondition}
use Rattle.run_states.specs.declared.precondition.Precondition.TheVariants.{AllValid, Hindered, Free}
use Rattle.run_states.specs.declared.state.Event.{Event}
use Rattle.run_states.specs.declared.state.Event.TheVariants.{Begin, Done as Finish, Fail}
use Rattle.run_states.specs.declared.state.State.{State}
use Rattle.run_states.specs.declared.state.State.TheVariants.{Blocked, Failed, Refused, Reused}
use Rattle.run_states.proofs.EarlierTwins.{run_twins}
use Rattle.run_states.proofs.NearestTwins.{all_good, any_twin, first_bad, stands_by, state_is}
use Rattle.run_states.proofs.Seeds.{phase_push, same_number, seeds_are_valid}
use Rattle.sched_core.specs.private.Booking.{IsRunKept, run_over}
use Rattle.sched_core.specs.private.Naming.{HadSeeds}
use Rattle.sched_core.proofs.KeptStates.{states_told}
use Rattle.sched_core.proofs.Permitting.{begun_event}

-- ---- a derivation in the state Failed is broken

failed_by_first : (found : Option ℕ) (all : Bool) (reason : Reason)
    → by_first found all ≡ Failed reason → ⊥
failed_by_first (Some input) all reason is = absurd cc
failed_by_first None true reason is = absurd cc
failed_by_first None false reason is = absurd cc

failed_by_twins : (built still : Bool) (other : State) (reason : Reason)
    → (other ≡ Failed reason → ⊥)
    → (if built then Reused else if still then Blocked else other) ≡ Failed reason → ⊥
failed_by_twins true still other reason none is = absurd cc
failed_by_twins false true other reason none is = absurd cc
failed_by_twins false false other reason none is = none is

failed_by_precondition : (precondition : Precondition) (built still : Bool) (found : Option ℕ)
    (all : Bool)
    (reason : Reason) → by_validity precondition (if built then Reused else if still then Blocked
    else by_hindrance precondition (by_first found all)) ≡ Failed reason → ⊥
failed_by_precondition AllValid built still found all reason is = absurd cc
failed_by_precondition (Hindered cause) built still found all reason is =
    failed_by_twins built still (Refused cause) reason (λ same. absurd cc) is
failed_by_precondition Free built still found all reason is =
    failed_by_twins built still (by_first found all) reason (failed_by_first found all reason) is

broken_by_phase : (p : Phase) (precondition : Precondition) (built still : Bool) (found : Option ℕ)
    (all : Bool) (reason : Reason) → stands_by p precondition built still found all ≡ Failed reason
    → p ≡ Broken reason
broken_by_phase Idle precondition built still found all reason is =
    absurd (failed_by_precondition precondition built still found all reason is)
broken_by_phase (Begun n) precondition built still found all reason is = absurd cc
broken_by_phase Ended precondition built still found all reason is = absurd cc
broken_by_phase (Broken why) precondition built still found all reason is = cc

broken_from_failed : (run : Run) (history : History) (d : ℕ) (reason : Reason)
    → state_in run history d ≡ Failed reason → phase_of history.events d ≡ Broken reason
broken_from_failed run history d reason is =
    let rows = rows_of run history.opening history.events in
    broken_by_phase _ (rows.precondition d) (any_twin rows is_done d)
    (any_twin rows is_open d) (first_bad rows d) (all_good rows d) _
    (sym (state_is _ (run_twins _ _ history.events) d) ∙ is)

-- ---- it had begun

-- a lease of it was given
abbrev WasGiven : List Event → ℕ → Type 0
WasGiven events d = (lease : ℕ) × Contains events (Begin d lease)

given_before : (events : List Event) (event : Event) (d : ℕ) → WasGiven events d
    → WasGiven (events ++ event ∷ []) d
given_before events event d given =
    (given.0, Contains-append_left events (event ∷ []) (Begin d given.0) given.1)

broken_by_begin : (same : Bool) (p : Phase) (n : ℕ) (reason : Reason)
    → later p (if same then Begun n else Idle) ≡ Broken reason → p ≡ Broken reason
broken_by_begin true p n reason is = absurd cc
broken_by_begin false p n reason is = is

broken_by_done : (same : Bool) (p : Phase) (reason : Reason)
    → later p (if same then Ended else Idle) ≡ Broken reason → p ≡ Broken reason
broken_by_done true p reason is = absurd cc
broken_by_done false p reason is = is

failed_had_begun : (events : List Event) (e d lease : ℕ) (why reason : Reason)
    → phase_of events e ≡ Begun lease → (phase_of events d ≡ Broken reason → WasGiven events d)
    → (same : Bool) → eqb e d ≡ same
    → later (phase_of events d) (if same then Broken why else Idle) ≡ Broken reason
    → WasGiven events d
failed_had_begun events e d lease why reason phase before true same broken = (
  lease,
  begun_event events d lease
      (subst (λ n. phase_of events n ≡ Begun lease) (same_number e d same) phase),
)
failed_had_begun events e d lease why reason phase before false other broken = before broken

had_begun : (run : Run) (history : History) → IsLegal run history → (d : ℕ) (reason : Reason)
    → phase_of history.events d ≡ Broken reason → WasGiven history.events d
had_begun run _ (legal_opening entries journal) d reason is = absurd cc
had_begun run _ (legal_begin history e legal within wanted ready) d reason is =
    let event = Begin e (begins history.events) in
    given_before history.events event d
    (had_begun run history legal d reason
    (broken_by_begin (eqb e d) (phase_of history.events d) (begins history.events) reason
    (sym (phase_push history.events event d) ∙ is)))
had_begun run _ (legal_done history e lease node infos entry legal phase at allowed is_entry) d
    reason is =
    let event = Finish e lease in
    given_before history.events event d
    (had_begun run history legal d reason
    (broken_by_done (eqb e d) (phase_of history.events d) reason
    (sym (phase_push history.events event d) ∙ is)))
had_begun run _ (legal_fail history e lease why legal phase) d reason is =
    given_before history.events (Fail e lease why) d
    (failed_had_begun history.events e d lease why reason phase
    (had_begun run history legal d reason) (eqb e d) refl
    (sym (phase_push history.events (Fail e lease why) d) ∙ is))

-- ---- what it is built from

seeds_of_failed : (run : Run) (history : History) → IsLegal run history → (d : ℕ)
    (reason : Reason) (node : Node) → state_in run history d ≡ Failed reason
    → slice_get run.graph.nodes d ≡ Some node
    → All (IsValid (registered history.entries)) (seeds_of run.graph.nodes node.drv)
seeds_of_failed run history legal d reason node is at =
    let given = had_begun run history legal d reason
    (broken_from_failed run history d reason is) in
    All-from_contains (IsValid (registered history.entries)) (seeds_of run.graph.nodes node.drv)
    (λ path has. seeds_are_valid run history legal d given.0 given.1 node at path has)

pub had_seeds : (system : Platform) (history : History) (table : StateTable) (given room : ℕ)
    → IsRunKept system history table given room → HadSeeds table history.entries
had_seeds system history table given room kept d reason node is at =
    seeds_of_failed (run_over table system) history kept.legal d reason node
    (sym (states_told _ _ _ _ _ kept d) ∙ is) at
