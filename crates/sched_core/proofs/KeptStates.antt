-- What a state table that is kept tells of its run.
use Rattle.std.proofs.Common.{◌≡◌, ℕ, ◌<◌, ◌-◌, Bool, true, false, List, [], ◌++◌, length, Option, Some, None, refl, sym, ap, ◌∙◌, subst, ⊎_elim, arith, rules}
use Rattle.std.specs.Prelude.{MatchOption, ◌↔◌, if◌then◌else◌, slice_get}
use Rattle.std.specs.List.{slice_index_or}
use Rattle.std.proofs.lemmas.Bool.{cases_lt}
use Rattle.std.proofs.lemmas.List.{get_or_past}
use Rattle.std.proofs.lemmas.Option.{slice_get_past}
use Rattle.sched_core.specs.private.Booking.{IsRunKept, run_over}
use Rattle.sched_core.specs.private.Naming.{AreNamed}
use Rattle.sched_core.proofs.Keeping.{has_begun}
use Rattle.run_states.specs.StateTables.{CanBegin, IsRunSettled, IsUnsettled}
use Rattle.run_states.specs.Systems.{Platform}
use Rattle.run_states.specs.Runs.{opened}
use Rattle.run_states.specs.Counts.{HasCount}
use Rattle.run_states.specs.StateTables.{StateTable, IsNext, IsOpen, IsSettled, IsUnsettledIn, all_of, awaited_at, listed, rows_of_table, table_state}
use Rattle.run_states.specs.Nearest.{last_alone, nearest}
use Rattle.run_report.specs.Reports.{IsReportIn, IsReportOf}
use Rattle.run_states.specs.Runs.{History, Run, earlier_twins, inputs_at, precondition_at, rows_of, state_in, terms_of}
use Rattle.run_states.specs.States.{Phase, Idle, Begun, Ended, Broken, by_first, by_hindrance, by_validity, is_done, is_open, phase_of}
use Rattle.run_states.specs.Steps.{awaited_by, edges_ahead, edges_ahead_in, followed_in}
use Rattle.run_states.specs.FollowedEdges.{rested, table_ahead, table_followed}
use Rattle.run_states.specs.declared.state.State.{State}
use Rattle.run_states.specs.declared.state.State.TheVariants.{Blocked, Building, Reused}
use Rattle.run_states.specs.declared.precondition.Precondition.{Precondition}
use Rattle.run_states.specs.declared.precondition.Precondition.TheVariants.{AllValid, Hindered, Free}
use Rattle.run_states.proofs.Counts.{same_count}
use Rattle.run_states.proofs.EarlierTwins.{run_twins, twins_past}
use Rattle.run_states.proofs.Histories.{building_from_begun, opening_legal}
use Rattle.run_states.proofs.NearestTwins.{all_good, any_twin, first_bad, nearest_told, stands_by, state_is}
use Rattle.run_report.proofs.RunReports.{report_in}
use Rattle.run_states.proofs.StateLaws.{AreSame, near_same}

-- ---- states follow from rows that are the same

twins_same : (system : Platform) (history : History) (table : StateTable) (given room : ℕ)
    → IsRunKept system history table given room
    → (d : ℕ) → listed (slice_index_or table.twins d None)
    ≡ last_alone (earlier_twins (run_over table system) history.opening d)
twins_same system history table given room kept d =
    search (rules, get_or_past, twins_past, slice_get_past, cases_lt)

rows_same : (system : Platform) (history : History) (table : StateTable) (given room : ℕ)
    → IsRunKept system history table given room
    → AreSame (rows_of_table table)
    (nearest (rows_of (run_over table system) history.opening history.events))
rows_same system history table given room kept =
    record {
      inputs = λ d. refl;
      twins = twins_same _ _ _ _ _ kept;
      precondition = λ d. ⊎_elim
          (λ below. kept.preconditions.each d below)
          (λ past.
          get_or_past _ d _ (omega (arith, kept.preconditions.count))
          ∙ sym (ap (precondition_at (terms_of (run_over table system)) history.opening)
          (slice_get_past _ d past)))
          (cases_lt d (length table.graph.nodes));
      phase = kept.phases;
    }

-- a state table tells the states
pub states_told : (system : Platform) (history : History) (table : StateTable) (given room : ℕ)
    → IsRunKept system history table given room
    → (d : ℕ) → table_state table d ≡ state_in (run_over table system) history d
states_told system history table given room kept d =
    near_same _ _ (rows_same _ _ _ _ _ kept) d ∙ nearest_told _ _ kept.legal d

-- ---- what can be begun

pub can_begin : (system : Platform) (history : History) (table : StateTable) (given room : ℕ)
    → IsRunKept system history table given room
    → (d : ℕ) → IsNext table d → CanBegin (run_over table system) history d
can_begin system history table given room kept d next =
    record {
      within = next.0;
      wanted = kept.wanted.yes d next.1;
      ready = sym (states_told _ _ _ _ _ kept d) ∙ next.2;
    }

pub is_next : (system : Platform) (history : History) (table : StateTable) (given room : ℕ)
    → IsRunKept system history table given room
    → (d : ℕ) → CanBegin (run_over table system) history d → IsNext table d
is_next system history table given room kept d can = (
  can.within,
  kept.wanted.no d can.wanted,
  states_told _ _ _ _ _ kept d
      ∙ can.ready,
)

pub unsettled_told : (system : Platform) (history : History) (table : StateTable) (given room : ℕ)
    → IsRunKept system history table given room
    → (count : ℕ) → HasCount (IsUnsettledIn table) count
    → HasCount (IsUnsettled (run_over table system) history) count
unsettled_told system history table given room kept count =
    same_count (IsUnsettledIn table) (IsUnsettled (run_over table system) history) _
    (λ d still. (
      still.0,
      kept.wanted.yes d still.1,
      subst IsOpen (states_told _ _ _ _ _ kept d) still.2,
    ))
    (λ d still. (
      still.0,
      kept.wanted.no d still.1,
      subst IsOpen (sym (states_told _ _ _ _ _ kept d)) still.2,
    ))

pub settled_told : (system : Platform) (history : History) (table : StateTable) (given room : ℕ)
    → IsRunKept system history table given room
    → IsSettled table ↔ IsRunSettled (run_over table system) history
settled_told system history table given room kept = (
  λ settled d within wanted still.
      settled d within (kept.wanted.no d wanted)
      (subst IsOpen (sym (states_told _ _ _ _ _ kept d)) still),
  λ settled d within wanted still.
      settled d within (kept.wanted.yes d wanted)
      (subst IsOpen (states_told _ _ _ _ _ kept d) still),
)

-- what is known of an answer, weakened
pub match_weaker : {X : Type 0} {P R : Type 0} {Q S : X → Type 0} (o : Option X) → MatchOption o P Q
    → (P → R) → ((x : X) → Q x → S x) → MatchOption o R S
match_weaker None is none some = none is
match_weaker (Some x) is none some = some x is

-- ---- a derivation that is building

not_by_first : (found : Option ℕ) (all : Bool) (lease : ℕ) → by_first found all ≡ Building lease → ⊥
not_by_first (Some input) all lease is = absurd cc
not_by_first None true lease is = absurd cc
not_by_first None false lease is = absurd cc

not_by_twins : (built still : Bool) (other : State) (lease : ℕ) → (other ≡ Building lease → ⊥)
    → (if built then Reused else if still then Blocked else other) ≡ Building lease → ⊥
not_by_twins true still other lease none is = absurd cc
not_by_twins false true other lease none is = absurd cc
not_by_twins false false other lease none is = none is

not_by_precondition : (precondition : Precondition) (built still : Bool) (found : Option ℕ)
    (all : Bool)
    (lease : ℕ) → by_validity precondition (if built then Reused else if still then Blocked
    else by_hindrance precondition (by_first found all)) ≡ Building lease → ⊥
not_by_precondition AllValid built still found all lease is = absurd cc
not_by_precondition (Hindered cause) built still found all lease is = search (rules, not_by_twins)
not_by_precondition Free built still found all lease is = search (rules, not_by_twins, not_by_first)

begun_by_phase : (p : Phase) (precondition : Precondition) (built still : Bool) (found : Option ℕ)
    (all : Bool) (lease : ℕ) → stands_by p precondition built still found all ≡ Building lease
    → p ≡ Begun lease
begun_by_phase Idle precondition built still found all lease is =
    search (rules, not_by_precondition)
begun_by_phase (Begun n) precondition built still found all lease is = cc
begun_by_phase Ended precondition built still found all lease is = absurd cc
begun_by_phase (Broken reason) precondition built still found all lease is = absurd cc

pub begun_from_building : (run : Run) (history : History) (d lease : ℕ) → state_in run history d
    ≡ Building lease → phase_of history.events d ≡ Begun lease
begun_from_building run history d lease is =
    let rows = rows_of run history.opening history.events in
    begun_by_phase _ (rows.precondition d) (any_twin rows is_done d)
    (any_twin rows is_open d) (first_bad rows d) (all_good rows d) _
    (sym (state_is _ (run_twins _ _ history.events) d) ∙ is)

-- ---- whether a lease is out

pub begun_told : (system : Platform) (history : History) (table : StateTable) (given room : ℕ)
    → IsRunKept system history table given room
    → (d number : ℕ) → ((d < length table.graph.nodes) × (table_state table d ≡ Building number))
    ↔ (phase_of history.events d ≡ Begun number)
begun_told system history table given room kept d number = (
  λ building.
      begun_from_building _ history d _ (sym (states_told _ _ _ _ _ kept d) ∙ building.1),
  λ is. (
    (has_begun _ _ _ _ _ kept d _ is).0,
    states_told _ _ _ _ _ kept d
        ∙ building_from_begun (run_over table system) history d _ is,
  ),
)

-- ---- the report

pub report_told : (system : Platform) (history : History) (table : StateTable) (given room : ℕ)
    → IsRunKept system history table given room
    → (named : List (Option (List ℕ))) (text : List ℕ) → AreNamed table history.entries named
    → IsReportOf table named text → IsReportIn (run_over table system) history text
report_told system history table given room kept named text are_named report =
    report_in (run_over table system) history table named text refl kept.wanted
    (states_told _ _ _ _ _ kept) are_named report

-- ---- along how many edges users were told

pub followed_kept : (system : Platform) (history : History) (table : StateTable) (given room : ℕ)
    → IsRunKept system history table given room
    → table_followed table ≡ followed_in (run_over table system) history
followed_kept system history table given room kept =
    ap (λ n. n - table_ahead table) then'
    ∙ ap (λ n. edges_ahead_in run (opened history.opening) - n) now
  where
    run : Run
    run = run_over table system

    count : ℕ
    count = length table.graph.nodes

    awaited_same : (d : ℕ) → all_of (awaited_at table.graph table.twins d)
        ≡ awaited_by run history d
    awaited_same d = ap (λ l. inputs_at table.graph.nodes (slice_get table.graph.nodes d) ++ l)
        (twins_same _ _ _ _ _ kept d)

    ahead_same : (a b : ℕ → State) → ((d : ℕ) → a d ≡ b d)
        → edges_ahead (λ d. all_of (awaited_at table.graph table.twins d)) a count
        ≡ edges_ahead (awaited_by run history) b count
    ahead_same a b same = search (rules, awaited_same, same, count)

    same : AreSame (rows_of_table (rested table)) (nearest (rows_of run history.opening []))
    same = record {
      inputs = λ d. refl;
      twins = twins_same _ _ _ _ _ kept;
      precondition = (rows_same _ _ _ _ _ kept).precondition;
      phase = λ d. refl;
    }

    then' : table_ahead (rested table) ≡ edges_ahead_in run (opened history.opening)
    then' = ahead_same (table_state (rested table)) (state_in run (opened history.opening))
        (λ d. near_same _
        _ same d
        ∙ nearest_told _ _ (opening_legal _ _ kept.legal) d)

    now : table_ahead table ≡ edges_ahead_in run history
    now = search (rules, ahead_same, run, states_told)
