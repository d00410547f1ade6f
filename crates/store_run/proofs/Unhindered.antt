-- What the state of a derivation follows from, in a history of a run.
use Rattle.std.proofs.Common.{◌≡◌, ◌∙◌, ℕ, Bool, true, false, List, Option, refl, sym, ap, if◌then◌else◌}
use Rattle.std.specs.Prelude.{Contains, slice_get}
use Rattle.std.specs.List.{list_any}
use Rattle.drv_graph.specs.SoundGraphs.{IsSound}
use Rattle.run_states.specs.Runs.{History, Run, earlier_twins, inputs_at, precondition_at, rows_of, state_in, terms_of}
use Rattle.run_states.specs.States.{Phase, Rows, Idle, Begun, Ended, Broken, by_first, by_hindrance, by_inputs, by_phase, by_validity, is_done, is_good, is_open, phase_of}
use Rattle.run_states.specs.declared.state.State.{State}
use Rattle.run_states.specs.declared.state.State.TheVariants.{Blocked, Ready, Reused}
use Rattle.run_states.specs.declared.precondition.Precondition.{Precondition}
use Rattle.run_states.specs.declared.precondition.Precondition.TheVariants.{AllValid, Hindered, Free}
use Rattle.run_states.proofs.Aside.{aside, aside_same as rows_same, state_aside}
use Rattle.run_states.proofs.Unhindered.{IsUnhindered as IsUnhinderedIn, unhindered_ready as ready_aside}
use Rattle.run_states.proofs.NearestTwins.{none_from}
use Rattle.run_states.proofs.PlanInputs.{rows_in_order}
use Rattle.run_states.proofs.Seeds.{done_is_ended, not_good_by_first}
use Rattle.run_states.proofs.Tests.{any_passes, one_passes}
use Rattle.valid_table.specs.declared.entry.Entry.{Entry}

-- the rows of a history
abbrev pub rows_in : Run → History → Rows
rows_in run history = rows_of run history.opening history.events

-- the numbers of a derivation's inputs
abbrev pub inputs_in : Run → ℕ → List ℕ
inputs_in run d = inputs_at run.graph.nodes (slice_get run.graph.nodes d)

-- where it stands by itself
abbrev pub precondition_in : Run → History → ℕ → Precondition
precondition_in run history d =
    precondition_at (terms_of run) history.opening (slice_get run.graph.nodes d)

-- the numbers of its earlier twins
abbrev pub twins_in : Run → History → ℕ → List ℕ
twins_in run history d = earlier_twins run history.opening d

-- its state, by its last event
pub state_by : (run : Run) (history : History) → IsSound run.graph → (d : ℕ) (p : Phase)
    → phase_of history.events d ≡ p
    → state_in run history d ≡ by_phase p (aside (rows_in run history) (state_in run history) d)
state_by run history sound d p is =
    state_aside _ (rows_in_order run history.opening history.events sound) d p is

-- Nothing but its own events is in the way of a derivation.
abbrev pub IsUnhindered : Run → History → ℕ → Type 0
IsUnhindered run history d = IsUnhinderedIn (rows_in run history) d

-- such a derivation is ready where it has no event
pub unhindered_ready : (run : Run) (history : History) → IsSound run.graph → (d : ℕ)
    → IsUnhindered run history d → phase_of history.events d ≡ Idle → state_in run history d ≡ Ready
unhindered_ready run history sound d un idle =
    state_by _ history sound d _ idle ∙ ready_aside _ d un

-- one that has no event is blocked where an earlier twin still has something before it, and none
-- was built
pub blocked_by_twin : (run : Run) (history : History) → IsSound run.graph → (d t : ℕ)
    → phase_of history.events d ≡ Idle → precondition_in run history d ≡ Free
    → Contains (twins_in run history d) t → is_open (state_in run history t) ≡ true
    → ((u : ℕ) → Contains (twins_in run history d) u → is_done (state_in run history u) ≡ false)
    → state_in run history d ≡ Blocked
blocked_by_twin run history sound d t idle free has still none =
    let f = state_in run history in
    let twins = twins_in run history d in
    state_by _ history sound d Idle idle
    ∙ rw (
      free,
      none_from (λ u. is_done (f u)) twins none,
      any_passes (λ u. is_open (f u)) twins t has still,
    ) refl

-- who is good was built, or has no event and stands by valid outputs or by an earlier twin that was
-- built
pub data IsGoodBy (run : Run) (history : History) (d : ℕ) : Type 0 where
  good_ended : phase_of history.events d ≡ Ended → IsGoodBy run history d
  good_reused : phase_of history.events d ≡ Idle → precondition_in run history d ≡ AllValid
      → IsGoodBy run history d
  good_twin : (t : ℕ) → phase_of history.events d ≡ Idle → Contains (twins_in run history d) t
      → phase_of history.events t ≡ Ended → IsGoodBy run history d

good_parts : (run : Run) (history : History) (d : ℕ) (p : Phase) (s : Precondition)
    (built still : Bool) (first : Option ℕ) (all : Bool)
    → phase_of history.events d ≡ p → precondition_in run history d ≡ s
    → (built ≡ true → (t : ℕ) × Contains (twins_in run history d) t
    × (phase_of history.events t ≡ Ended))
    → is_good (by_phase p (by_validity s (if built then Reused else if still then Blocked
    else by_hindrance s (by_first first all)))) ≡ true → IsGoodBy run history d
good_parts run history d (Begun n) s built still first all at stands by_twin is = absurd cc
good_parts run history d Ended s built still first all at stands by_twin is = good_ended at
good_parts run history d (Broken reason) s built still first all at stands by_twin is = absurd cc
good_parts run history d Idle AllValid built still first all at stands by_twin is =
    good_reused at stands
good_parts run history d Idle (Hindered cause) true still first all at stands by_twin is =
    let twin = by_twin refl in good_twin twin.0 at twin.1 twin.2
good_parts run history d Idle (Hindered cause) false true first all at stands by_twin is = absurd cc
good_parts run history d Idle (Hindered cause) false false first all at stands by_twin is =
    absurd cc
good_parts run history d Idle Free true still first all at stands by_twin is =
    let twin = by_twin refl in good_twin twin.0 at twin.1 twin.2
good_parts run history d Idle Free false true first all at stands by_twin is = absurd cc
good_parts run history d Idle Free false false first all at stands by_twin is =
    absurd (not_good_by_first _ _ is)

pub good_is : (run : Run) (history : History) → IsSound run.graph → (d : ℕ)
    → is_good (state_in run history d) ≡ true → IsGoodBy run history d
good_is run history sound d good =
    let f = state_in run history in
    let inputs = inputs_in run d in
    let twins = twins_in run history d in
    good_parts run history d (phase_of history.events d) (precondition_in run history d)
    (list_any (λ t. is_done (f t)) twins) (list_any (λ t. is_open (f t)) twins)
    _ _ refl refl
    (λ built. let found = one_passes (λ t. is_done (f t)) _ built in
    (found.0, found.1, done_is_ended (rows_of run history.opening history.events) found.0 found.2))
    (sym (ap is_good (state_by run history sound d _ refl)) ∙ good)

good_by_twin : (s : Precondition) (still : Bool) (other : State) → is_good (by_validity s
    (if true then Reused else if still then Blocked else other)) ≡ true
good_by_twin AllValid still other = refl
good_by_twin (Hindered cause) still other = refl
good_by_twin Free still other = refl

-- and is good then
pub is_good_by : (run : Run) (history : History) → IsSound run.graph → (d : ℕ)
    → IsGoodBy run history d → is_good (state_in run history d) ≡ true
is_good_by run history sound d (good_ended at) = ap is_good (state_by run history sound d _ at)
is_good_by run history sound d (good_reused at stands) =
    ap is_good (state_by _ history sound d Idle at) ∙ rw stands refl
is_good_by run history sound d (good_twin t at has ends) =
    let f = state_in run history in
    let twins = twins_in run history d in
    let built : list_any (λ u. is_done (f u)) twins ≡ true =
    any_passes (λ u. is_done (f u)) _ t has (ap is_done
    (state_by run history sound t _ ends))
    in
    ap is_good (state_by run history sound d _ at)
    ∙ ap (λ b. is_good (by_validity (precondition_in run history d)
    (if b then Reused else if list_any (λ u. is_open (f u)) twins then Blocked
    else by_hindrance (precondition_in run history d) (by_inputs f (inputs_in run d))))) built
    ∙ good_by_twin _ (list_any (λ u. is_open (f u)) twins)
    (by_hindrance (precondition_in run history d) (by_inputs f (inputs_in run d)))

-- ---- two histories of one opening

-- where the states of its inputs and of its earlier twins are the same, and it has no event, its
-- state is the same
pub aside_same : (run : Run) (history other : History) (d : ℕ) → history.opening ≡ other.opening
    → ((i : ℕ) → Contains (inputs_in run d) i → state_in run history i ≡ state_in run other i)
    → ((t : ℕ) → Contains (twins_in run history d) t
    → state_in run history t ≡ state_in run other t)
    → aside (rows_in run history) (state_in run history) d
    ≡ aside (rows_in run other) (state_in run other) d
aside_same run history other d opening same alike =
    rows_same (rows_in run history) (state_in run history) (state_in run other) d (λ _. same) alike
    ∙ ap (λ (opens : List Entry). aside (rows_of run opens other.events) (state_in run other) d)
    opening
