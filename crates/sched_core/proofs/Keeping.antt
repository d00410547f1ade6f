-- What is kept of a run, and that it is kept after each event.
use Rattle.std.proofs.Common.{◌≡◌, ℕ, suc, ◌+◌, ◌*◌, ◌<◌, ◌≤◌, Bool, true, false, List, [], ◌∷◌, ◌++◌, length, Option, refl, sym, ap, ◌∙◌, subst, arith, take, rules}
use Rattle.std.specs.Prelude.{◌==◌, if◌then◌else◌, slice_set}
use Rattle.std.specs.List.{slice_index_or, sum_by}
use Rattle.std.proofs.Math.Dec.{eqb}
use Rattle.std.proofs.Math.Facts.{eqb_yes}
use Rattle.std.proofs.lemmas.Bool.{cases_lt}
use Rattle.std.proofs.lemmas.Grind.{get_or-set_at}
use Rattle.std.proofs.lemmas.List.{get_or-set_other, get_or_past, length-set, length_push, take-append-le}
use Rattle.std.proofs.Math.Seq.{take-length}
use Rattle.std.proofs.lemmas.List.Sums.{sum_by-cons, sum_by-set, sum_by_push}
use Rattle.nix_drv.proofs.Fixed.{eqb_same}
use Rattle.drv_graph.specs.Plans.{Graph}
use Rattle.valid_table.specs.PathInfos.{PathInfo}
use Rattle.valid_table.specs.Valid.{IsJournal}
use Rattle.valid_table.specs.declared.entry.Entry.{Entry}
use Rattle.sched_core.specs.private.Booking.{IsRunKept, events_left, history_of, run_over}
use Rattle.run_states.specs.StateTables.{CanBegin}
use Rattle.run_states.specs.Systems.{Platform}
use Rattle.sched_core.specs.Books.{IsDone}
use Rattle.run_states.specs.StateTables.{AreNearest, ArePreconditions, AreWanted, StateTable, HasBegun}
use Rattle.run_states.specs.Legal.{IsLegal, legal_begin, legal_opening, legal_done, legal_fail, begins, is_begin}
use Rattle.run_states.specs.Runs.{History, Run, terms_of}
use Rattle.run_states.specs.States.{Phase, Idle, Begun, Ended, Broken, later, phase_by, phase_of}
use Rattle.run_states.specs.declared.state.Event.{Event}
use Rattle.run_states.specs.declared.state.Event.TheVariants.{Begin, Done as Finish, Fail}
use Rattle.build_outcome.specs.declared.reason.Reason.{Reason}
use Rattle.run_states.specs.declared.precondition.Precondition.{Precondition}
use Rattle.run_states.proofs.Histories.{ready_is_idle}
use Rattle.run_states.proofs.Seeds.{phase_push}

-- ---- what has begun

pub has_begun : (system : Platform) (history : History) (table : StateTable) (given room : ℕ)
    → IsRunKept system history table given room
    → (d lease : ℕ) → phase_of history.events d ≡ Begun lease → HasBegun table d
has_begun system history table given room kept d lease is = search (rules, get_or_past, cases_lt)

-- ---- one event more

-- by an event of a derivation it alone stands elsewhere
phases_set : (phases : List Phase) (events : List Event) (d : ℕ) (event : Event) (p : Phase) → d
    < length phases
    → ((e : ℕ) → slice_index_or phases e Idle ≡ phase_of events e)
    → ((e : ℕ) → phase_by event e ≡ (if d == e then p else Idle)) → ((q : Phase) → later q p ≡ p)
    → (e : ℕ) → slice_index_or (slice_set phases d p) e Idle ≡ phase_of (events ++ event ∷ []) e
phases_set phases events d event p within before own last e =
    by (eqb d e) refl
  where
    by : (same : Bool) → eqb d e ≡ same → slice_index_or (slice_set phases d p) e Idle
        ≡ phase_of (events ++ event ∷ []) e
    by true is = search (rules, get_or-set_at, eqb_yes, phase_push)
    by false is = search (rules, eqb, eqb_same, get_or-set_other, phase_push)

room_set : (phases : List Phase) (events : List Event) (d room : ℕ) (event : Event) (p : Phase) → d
    < length phases
    → events_left p + 1 ≡ events_left (slice_index_or phases d Idle) → length events
    + sum_by events_left phases ≡ room
    → length (events ++ event ∷ []) + sum_by events_left (slice_set phases d p) ≡ room
room_set phases events d room event p within less fits = search (rules, sum_by-set, length_push)

-- what is kept after one event more
after_event : (system : Platform) (before after : History) (table : StateTable)
    (given more room d : ℕ)
    (event : Event) (p : Phase)
    → IsRunKept system before table given room → IsLegal (run_over table system) after
    → after.opening ≡ before.opening → after.events ≡ before.events ++ event ∷ [] → more
    ≡ begins after.events
    → ((e : ℕ) → phase_by event e ≡ (if d == e then p else Idle)) → ((q : Phase) → later q p ≡ p)
    → d < length table.phases → events_left p + 1 ≡ events_left (phase_of before.events d)
    → IsRunKept system after (record table { phases = slice_set table.phases d p }) more room
after_event system before after table given more room d event p kept legal opening events counted
    own last within less =
    record {
      legal = legal;
      preconditions = subst (λ es. ArePreconditions (terms_of (run_over table system))
          es table.graph.nodes table.preconditions)
          (sym opening) kept.preconditions;
      wanted = subst (λ es. AreWanted (run_over table system) es table.wanted) (sym opening)
          kept.wanted;
      twins = subst (λ es. AreNearest (run_over table system) es table.twins) (sym opening)
          kept.twins;
      count = length-set table.phases d p ∙ kept.count;
      phases = λ e.
          phases_set _ before.events d _ p within kept.phases own last e
          ∙ sym (ap (λ es. phase_of es e) events);
      given_is = counted;
      has_room =
          subst (λ es. length es + sum_by events_left (slice_set table.phases d p) ≡ room)
          (sym events)
          (room_set _ _ d _ _ p within
          (subst (λ q. events_left p + 1 ≡ events_left q) (sym (kept.phases d)) less)
          kept.has_room);
    }

begins_by : (events : List Event) (event : Event) → begins (events ++ event ∷ []) ≡ begins events
    + (if is_begin event then 1 else 0)
begins_by events event = search (rules, sum_by_push)

pub begin_kept : (system : Platform) (opening : ℕ) (entries : List Entry)
    (events after : List Event)
    (table later_table : StateTable) (given room later_room d : ℕ)
    → IsRunKept system (history_of opening entries events) table given room
    → CanBegin (run_over table system) (history_of opening entries events) d
    → after ≡ events ++ Begin d given ∷ [] → later_table
    ≡ record table { phases = slice_set table.phases d (Begun given) } → later_room ≡ room
    → IsRunKept system (history_of opening entries after) later_table (given + 1) later_room
begin_kept system opening entries events after table later_table given room later_room d kept can
    pushed set_ same =
    let history = history_of opening entries events in
    let event = Begin d given in
    let numbered : after ≡ events ++ Begin d (begins events) ∷ [] = pushed
    ∙ ap (λ n. events ++ Begin d n ∷ []) kept.given_is in
    let legal = legal_begin history d kept.legal can.within can.wanted can.ready in
    let idle = ready_is_idle (run_over table system) history d can.ready in
    let counted : given + 1 ≡ begins after = rw pushed
    (omega (arith, kept.given_is, begins_by events event)) in
    rw (set_, same)
    (after_event system history (history_of opening entries after) table given (given + 1) room d
    event (Begun given) kept
    (subst (λ es. IsLegal (run_over table system) (history_of opening entries es)) (sym numbered)
    legal)
    refl pushed counted (λ e. refl) (λ q. refl) (omega (arith, can.within, kept.count))
    (rw idle (omega arith)))

pub fail_kept : (system : Platform) (opening : ℕ) (entries : List Entry) (events after : List Event)
    (table later_table : StateTable) (given room later_room d lease : ℕ) (reason : Reason)
    → IsRunKept system (history_of opening entries events) table given room → phase_of events d
    ≡ Begun lease
    → after ≡ events ++ Fail d lease reason ∷ [] → later_table
    ≡ record table { phases = slice_set table.phases d (Broken reason) } → later_room ≡ room
    → IsRunKept system (history_of opening entries after) later_table given later_room
fail_kept system opening entries events after table later_table given room later_room d lease
    reason kept is pushed set_ same =
    let history = history_of opening entries events in
    let event = Fail d lease reason in
    let legal = legal_fail history d lease reason kept.legal is in
    let counted : given ≡ begins after = rw pushed
    (omega (arith, kept.given_is, begins_by events event)) in
    let within = (has_begun system history table given room kept d lease is).0 in
    rw (set_, same)
    (after_event system history (history_of opening entries after) table given given room d event
    (Broken reason) kept
    (subst (λ es. IsLegal (run_over table system) (history_of opening entries es)) (sym pushed)
    legal)
    refl pushed counted (λ e. refl) (λ q. refl) (omega (arith, within, kept.count))
    (rw is (omega arith)))

pub finish_kept : (system : Platform) (opening : ℕ) (entries more : List Entry)
    (events after : List Event) (table later_table : StateTable) (given room later_room d lease : ℕ)
    (infos : List PathInfo) (entry : Entry)
    → IsRunKept system (history_of opening entries events) table given room
    → opening ≤ length entries
    → phase_of events d ≡ Begun lease
    → IsDone (run_over table system) entries d infos entry
    → more ≡ entries ++ entry ∷ [] → after ≡ events ++ Finish d lease ∷ [] → later_table
    ≡ record table { phases = slice_set table.phases d Ended } → later_room ≡ room
    → IsRunKept system (history_of opening more after) later_table given later_room
finish_kept system opening entries more events after table later_table given room later_room d
    lease infos entry kept opened is done added pushed set_ same =
    let history = history_of opening entries events in
    let event = Finish d lease in
    let legal = legal_done history d lease done.node infos entry kept.legal is done.is_node
    done.allowed done.is_entry in
    let stays : take opening (entries ++ entry ∷ [])
    ≡ take opening entries = take-append-le opening entries (entry ∷ []) opened in
    let now : IsLegal (run_over table system)
    (history_of opening (entries ++ entry ∷ []) (events ++ event ∷ [])) =
    subst (λ first. IsLegal (run_over table system)
    (record {
      opening = first;
      entries = entries ++ entry ∷ [];
      events = events ++ event ∷ [];
    })) (sym stays) legal in
    let counted : given ≡ begins after = rw pushed
    (omega (arith, kept.given_is, begins_by events event)) in
    let within = (has_begun system history table given room kept d lease is).0 in
    rw (set_, same)
    (after_event system history (history_of opening more after) table given given room d event
    Ended kept
    (rw (added, pushed) now)
    (ap (take opening) added ∙ stays) pushed counted (λ e. refl) (λ q. refl)
    (omega (arith, within, kept.count)) (rw is (omega arith)))

-- there is room for the event of a derivation that can still have one
room_for : (system : Platform) (history : History) (table : StateTable) (given room : ℕ)
    → IsRunKept system history table given room
    → (d : ℕ) → d < length table.graph.nodes → 0 < events_left (phase_of history.events d)
    → length history.events < room
room_for system history table given room kept d within some =
    let own : events_left (slice_index_or table.phases d Idle)
    ≡ events_left (phase_of history.events d) = ap events_left (kept.phases d) in
    omega (
      arith,
      own,
      some,
      kept.has_room,
      sum_by-set events_left table.phases d Ended Idle
          (omega (arith, kept.count)),
    )

pub room_to_begin : (system : Platform) (history : History) (table : StateTable) (given room : ℕ)
    → IsRunKept system history table given room
    → (d : ℕ) → CanBegin (run_over table system) history d → length history.events < room
room_to_begin system history table given room kept d can =
    let idle = ready_is_idle (run_over table system) history d can.ready in
    room_for _ _ _ _ _ kept d can.within (rw idle (omega arith))

pub room_to_end : (system : Platform) (history : History) (table : StateTable) (given room : ℕ)
    → IsRunKept system history table given room
    → (d lease : ℕ) → phase_of history.events d ≡ Begun lease → length history.events < room
room_to_end system history table given room kept d lease is =
    room_for _ _ _ _ _ kept d (has_begun _ _ _ _ _ kept d _ is).0 (rw is (omega arith))

-- ---- the opening

-- derivations that have not begun may have two events each
room_of_idle : (phases : List Phase) → ((d : ℕ) → slice_index_or phases d Idle ≡ Idle)
    → sum_by events_left phases ≡ 2 * length phases
room_of_idle [] idle = refl
room_of_idle (p ∷ ps) idle =
    let rest = room_of_idle ps (λ d. idle (suc d)) in
    let own : events_left p ≡ 2 = ap events_left (idle 0) in
    omega (arith, rest, own, sum_by-cons events_left p ps)

pub opening_kept : (system : Platform) (opening room : ℕ) (entries : List Entry)
    (events : List Event)
    (table : StateTable) (graph : Graph) (preconditions : List Precondition) (wanted : List Bool)
    (twins : List (Option ℕ)) → IsJournal entries → opening ≡ length entries → events ≡ []
    → ArePreconditions (record { profile = graph.profile; system = system }) entries graph.nodes
    preconditions
    → ((run : Run) (first : List Entry) → run.graph ≡ graph
    → ArePreconditions (terms_of run) first graph.nodes preconditions → AreWanted run first wanted)
    → ((run : Run) (first : List Entry) → run.graph ≡ graph → AreWanted run first wanted
    → AreNearest run first twins)
    → table.graph ≡ graph → table.preconditions ≡ preconditions → table.wanted ≡ wanted
    → table.twins ≡ twins
    → length table.phases ≡ length graph.nodes
    → ((d : ℕ) → slice_index_or table.phases d Idle ≡ Idle) → 2 * length preconditions ≡ room
    → IsRunKept system (history_of opening entries events) table 0 room
opening_kept system opening room entries events table graph preconditions wanted twins journal
    counted
    none stand want near is_graph is_preconditions is_wanted is_twins count idle room_is =
    let all : take opening entries ≡ entries = ap (λ n. take n entries) counted
    ∙ take-length entries in
    let run = run_over table system in
    let start : IsLegal run (history_of opening entries []) =
    subst (λ first. IsLegal run (record { opening = first; entries = entries; events = [] }))
    (sym all) (legal_opening entries journal) in
    let own = subst
    (λ (g : Graph). ArePreconditions (record { profile = g.profile; system = system }) entries
    graph.nodes preconditions) (sym is_graph) stand in
    rw none
    (record {
      legal = start;
      preconditions = rw (all, is_graph, is_preconditions) stand;
      wanted = rw (all, is_wanted) (want run entries is_graph own);
      twins = rw (all, is_twins) (near run entries is_graph (want run entries is_graph own));
      count = rw is_graph count;
      phases = idle;
      given_is = refl;
      has_room = omega (arith, room_of_idle table.phases idle, count, stand.count, room_is);
    })
