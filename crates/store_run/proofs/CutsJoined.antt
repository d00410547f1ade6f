-- A run that was cut and what went on after it, put together: one history over the first opening,
-- with the entries of the second. What the first run built is built one after the other, and then
-- all happens that happened after the cut.
use Rattle.std.proofs.Common.{◌≡◌, ◌∙◌, ◌⊎◌, ◌<◌, ℕ, true, List, [], ◌∷◌, ◌++◌, length, Result, Ok, Err, Some, refl, sym, ap, subst, ⊎_elim}
use Rattle.std.specs.Prelude.{slice_get}
use Rattle.drv_graph.specs.Nodes.{Node}
use Rattle.drv_graph.specs.SoundGraphs.{IsSound}
use Rattle.valid_table.specs.PathInfos.{PathInfo}
use Rattle.valid_table.specs.declared.entry.Entry.{Entry}
use Rattle.build_outcome.specs.declared.job.Answer.{Answer}
use Rattle.build_outcome.specs.declared.job.Job.{Job}
use Rattle.build_outcome.specs.declared.reason.Reason.{Reason}
use Rattle.build_outcome.specs.declared.reason.Reason.TheVariants.{OutOfMemory}
use Rattle.run_states.specs.Legal.{IsAllowed, IsEntryOf, IsLegal, begins, begun, ended, failed, legal_begin, legal_done, legal_fail, legal_opening}
use Rattle.run_states.specs.Runs.{History, IsWanted, Run, precondition_at, state_in, terms_of}
use Rattle.run_states.specs.States.{Phase, Idle, Begun, Ended, Broken, is_good, phase_of}
use Rattle.run_states.specs.declared.state.Event.{Event}
use Rattle.run_states.specs.declared.state.Event.TheVariants.{Begin, Done as Finish, Fail}
use Rattle.run_states.specs.declared.state.State.TheVariants.{Ready}
use Rattle.run_states.specs.declared.precondition.Precondition.TheVariants.{Free}
use Rattle.run_states.proofs.Histories.{ready_is_idle}
use Rattle.run_states.proofs.OtherEvents.{number_of, phase_other, same_or_other}
use Rattle.run_states.proofs.Unhindered.{begun_unhindered, ready_unhindered}
use Rattle.store_run.specs.Builders.{IsAnswered, IsVerdictAfter, answered_begin, answered_done, answered_fail, answered_opening}
use Rattle.store_run.specs.Interruptions.{HasNoTwins, IsCutRun}
use Rattle.store_run.proofs.CutOpenings.{ended_or_not, free_unbuilt, none_earlier, stands_same, was_wanted}
use Rattle.store_run.proofs.Telling.{WasBegun, begun_is, phase_begun, phase_broken, phase_ended}
use Rattle.store_run.proofs.ToldRuns.{answered_before_begin, answered_by_done, answered_by_fail, told_from}
use Rattle.store_run.proofs.Unhindered.{IsGoodBy, IsUnhindered, good_ended, good_is, good_reused, good_twin, is_good_by, precondition_in, unhindered_ready}

-- ---- phases after one event more

-- what was built stays so after an event of something else
stays_ended : (events : List Event) (x : Event) → (phase_of events (number_of x) ≡ Ended → ⊥)
    → (d : ℕ) → phase_of events d ≡ Ended → phase_of (events ++ x ∷ []) d ≡ Ended
stays_ended events x unbuilt d ends =
    ⊎_elim
    (λ same. absurd (unbuilt (subst (λ n. phase_of events n ≡ Ended) (sym same) ends)))
    (λ other. phase_other events x d other ∙ ends)
    (same_or_other (number_of x) d)

-- after an event that leaves its own derivation unbuilt, what is built was so before
was_ended : (events : List Event) (x : Event)
    → (phase_of (events ++ x ∷ []) (number_of x) ≡ Ended → ⊥) → (d : ℕ)
    → phase_of (events ++ x ∷ []) d ≡ Ended → phase_of events d ≡ Ended
was_ended events x unbuilt d ends =
    ⊎_elim
    (λ same. absurd
    (unbuilt (subst (λ n. phase_of (events ++ x ∷ []) n ≡ Ended) (sym same) ends)))
    (λ other. sym (phase_other events x d other) ∙ ends)
    (same_or_other (number_of x) d)

idle_unbuilt : (p : Phase) → p ≡ Idle → p ≡ Ended → ⊥
idle_unbuilt p is ends = let clash : Idle ≡ Ended = sym is ∙ ends in cc

begun_unbuilt : (p : Phase) (lease : ℕ) → p ≡ Begun lease → p ≡ Ended → ⊥
begun_unbuilt p lease is ends = let clash : Begun lease ≡ Ended = sym is ∙ ends in cc

broken_unbuilt : (p : Phase) (reason : Reason) → p ≡ Broken reason → p ≡ Ended → ⊥
broken_unbuilt p reason is ends = let clash : Broken reason ≡ Ended = sym is ∙ ends in cc

begun_moved : (p : Phase) (lease : ℕ) → p ≡ Begun lease → p ≡ Idle → ⊥
begun_moved p lease is idle = let clash : Begun lease ≡ Idle = sym is ∙ idle in cc

-- a history by its parts
abbrev pub over : (opening entries : List Entry) → List Event → History
over opening entries events = record { opening = opening; entries = entries; events = events }

-- ---- what a run built, one after the other

module _ (may gives : Job → Result Answer Reason → Type 0) (run : Run) (sound : IsSound run.graph)
    (alone : HasNoTwins run.graph) where
  -- Events by which just what the history built is built, one after the other, with its entries.
  pub record IsKept (history : History) : Type 0 where
    pub events : List Event
    pub legal : IsLegal run (over history.opening history.entries events)
    pub answered : IsAnswered gives run (over history.opening history.entries events)
    pub built : (d : ℕ) → phase_of history.events d ≡ Ended → phase_of events d ≡ Ended
    pub rests : (d : ℕ) → (phase_of history.events d ≡ Ended → ⊥) → phase_of events d ≡ Idle

  -- what was given where a derivation was built may be given now
  abbrev pub PassesOn : History → Type 0
  PassesOn history = (d : ℕ) (entries : List Entry) (infos : List PathInfo)
      → phase_of history.events d ≡ Ended → IsVerdictAfter may run entries d (Ok infos)
      → IsVerdictAfter gives run entries d (Ok infos)

  -- an event by which nothing is built or was changes nothing
  kept_on : (history : History) (x : Event)
      → (phase_of history.events (number_of x) ≡ Ended → ⊥)
      → (phase_of (history.events ++ x ∷ []) (number_of x) ≡ Ended → ⊥) → IsKept history
      → IsKept (over history.opening history.entries (history.events ++ x ∷ []))
  kept_on history x unbuilt still before = record {
    events = before.events;
    legal = before.legal;
    answered = before.answered;
    built = λ d ends. before.built d (was_ended history.events x still d ends);
    rests = λ d fresh. before.rests d
        (λ ends. fresh (stays_ended history.events x unbuilt d ends));
  }

  good_kept : (history : History) (before : IsKept history) (i : ℕ)
      → is_good (state_in run history i) ≡ true
      → is_good (state_in run (over history.opening history.entries before.events) i) ≡ true
  good_kept history before i good = by (good_is run history sound i good)
    where
      here : History
      here = over history.opening history.entries before.events

      by : IsGoodBy run history i → is_good (state_in run here i) ≡ true
      by (good_ended ends) = is_good_by run here sound i (good_ended (before.built i ends))
      by (good_reused idle stands) =
          is_good_by run here sound i
          (good_reused
          (before.rests i (idle_unbuilt (phase_of history.events i) idle)) stands)
      by (good_twin t idle twin ends) = absurd (none_earlier run alone history.opening i t twin)

  module _ (history : History) (e lease : ℕ) (legal : IsLegal run history)
      (answered : IsAnswered may run history)
      (phase : phase_of history.events e ≡ Begun lease) (before : IsKept history) where
    abbrev here : History
    here = over history.opening history.entries before.events

    abbrev new : ℕ
    new = begins before.events

    abbrev pub done_events : List Event
    done_events = (before.events ++ Begin e new ∷ []) ++ Finish e new ∷ []

    was : WasBegun run history e
    was = begun_is (λ reason. reason ≡ OutOfMemory) may run sound history
        (told_from may run history legal answered) e
        (begun_moved (phase_of history.events e) lease phase)

    now_unhindered : IsUnhindered run here e
    now_unhindered = record {
      free = was.unhindered.free;
      spent = λ t has. absurd (none_earlier run alone history.opening e t has);
      good = λ i has. good_kept history before i (was.unhindered.good i has);
    }

    idle : phase_of before.events e ≡ Idle
    idle = before.rests e (begun_unbuilt (phase_of history.events e) lease phase)

    legal_new : IsLegal run (begun here e)
    legal_new = legal_begin here e before.legal was.within was.wanted
        (unhindered_ready run here sound e now_unhindered idle)

    kept_done : (node own : Node) (infos given : List PathInfo) (entry : Entry)
        → slice_get run.graph.nodes e ≡ Some node
        → IsAllowed run.graph history.entries node infos → IsEntryOf node infos entry
        → slice_get run.graph.nodes e ≡ Some own
        → IsVerdictAfter gives run history.entries e (Ok given) → IsEntryOf own given entry
        → IsKept (ended history e lease entry)
    kept_done node own infos given entry at allowed is_entry own_at came own_entry = record {
      events = done_events;
      legal = legal_done (begun here e) e new node infos entry legal_new
          (phase_begun before.events e new) at allowed is_entry;
      answered = answered_done (begun here e) e new own given entry
          (answered_begin here e before.answered) own_at came own_entry;
      built = λ d ends. ⊎_elim
          (λ same. subst (λ n. phase_of done_events n ≡ Ended) same
          (phase_ended (before.events ++ Begin e new ∷ []) e new))
          (λ other. phase_other (before.events ++ Begin e new ∷ []) (Finish e new) d other
          ∙ phase_other before.events (Begin e new) d other
          ∙ before.built d (sym (phase_other history.events (Finish e lease) d other) ∙ ends))
          (same_or_other e d);
      rests = λ d fresh. ⊎_elim
          (λ same. absurd (fresh
          (subst (λ n. phase_of (history.events ++ Finish e lease ∷ []) n ≡ Ended) same
          (phase_ended history.events e lease))))
          (λ other. phase_other (before.events ++ Begin e new ∷ []) (Finish e new) d other
          ∙ phase_other before.events (Begin e new) d other
          ∙ before.rests d
          (λ ends. fresh (phase_other history.events (Finish e lease) d other ∙ ends)))
          (same_or_other e d);
    }

  pub kept : (history : History) → IsLegal run history → IsAnswered may run history
      → PassesOn history → IsKept history
  kept _ (legal_opening entries journal) answered passes = record {
    events = [];
    legal = legal_opening entries journal;
    answered = answered_opening entries;
    built = λ d ends. absurd (idle_unbuilt Idle refl ends);
    rests = λ d fresh. refl;
  }
  kept _ (legal_begin history e legal within wanted ready) answered passes =
      let lease = begins history.events in
      let unbuilt = idle_unbuilt (phase_of history.events e) (ready_is_idle run history e ready) in
      kept_on history (Begin e lease) unbuilt
      (begun_unbuilt (phase_of (history.events ++ Begin e lease ∷ []) e) lease
      (phase_begun history.events e lease))
      (kept history legal (answered_before_begin may run _ answered history e refl)
      (λ d entries infos ends. passes d entries infos
      (stays_ended history.events (Begin e lease) unbuilt d ends)))
  kept _ (legal_done history e lease node infos entry legal phase at allowed is_entry) answered
      passes =
      let was = answered_by_done may run _ answered history e lease entry refl in
      let unbuilt = begun_unbuilt (phase_of history.events e) lease phase in
      kept_done history e lease legal was.before phase
      (kept history legal was.before
      (λ d entries known ends. passes d entries known
      (stays_ended history.events (Finish e lease) unbuilt d ends)))
      node was.node infos was.infos entry at allowed is_entry was.is_node
      (passes e history.entries was.infos (phase_ended history.events e lease) was.came)
      was.is_entry
  kept _ (legal_fail history e lease reason legal phase) answered passes =
      let was = answered_by_fail may run _ answered history e lease reason refl in
      let unbuilt = begun_unbuilt (phase_of history.events e) lease phase in
      kept_on history (Fail e lease reason) unbuilt
      (broken_unbuilt (phase_of (history.events ++ Fail e lease reason ∷ []) e) reason
      (phase_broken history.events e lease reason))
      (kept history legal was.before
      (λ d entries infos ends. passes d entries infos
      (stays_ended history.events (Fail e lease reason) unbuilt d ends)))

-- ---- and all that happened after the cut

-- a phase is another, but for the lease of one that has begun
abbrev pub IsSamePhase : Phase → Phase → Type 0
IsSamePhase Idle q = q ≡ Idle
IsSamePhase (Begun lease) q = (other : ℕ) × (q ≡ Begun other)
IsSamePhase Ended q = q ≡ Ended
IsSamePhase (Broken reason) q = q ≡ Broken reason

-- so it stays after an event of each history, of one derivation, that leave it in one phase
same_push : (events others : List Event) (x y : Event) (e : ℕ) → number_of x ≡ e → number_of y ≡ e
    → IsSamePhase (phase_of (events ++ x ∷ []) e) (phase_of (others ++ y ∷ []) e)
    → (d : ℕ) → IsSamePhase (phase_of events d) (phase_of others d)
    → IsSamePhase (phase_of (events ++ x ∷ []) d) (phase_of (others ++ y ∷ []) d)
same_push events others x y e of_x of_y here d before =
    ⊎_elim
    (λ same. subst
    (λ n. IsSamePhase (phase_of (events ++ x ∷ []) n) (phase_of (others ++ y ∷ []) n)) same here)
    (λ other.
    let first = phase_other events x d (λ is. other (sym of_x ∙ is)) in
    let second = phase_other others y d (λ is. other (sym of_y ∙ is)) in
    subst (λ p. IsSamePhase p (phase_of (others ++ y ∷ []) d)) (sym first)
    (subst (λ q. IsSamePhase (phase_of events d) q) (sym second) before))
    (same_or_other e d)

-- phases that are the same by their values
same_by : (p q p' q' : Phase) → p ≡ p' → q ≡ q' → IsSamePhase p' q' → IsSamePhase p q
same_by p q p' q' is_p is_q same =
    subst (λ r. IsSamePhase r q) (sym is_p) (subst (λ r. IsSamePhase p' r) (sym is_q) same)

module _ (may gives : Job → Result Answer Reason → Type 0) (run : Run) (cut : History)
    (is_cut : IsCutRun may run cut) where
  -- Events of one history with the entries of the second: what was built before the cut is built,
  -- and all else is in the phase in which it is after the cut.
  pub record IsJoined (next : History) : Type 0 where
    pub events : List Event
    pub legal : IsLegal run (over cut.opening next.entries events)
    pub answered : IsAnswered gives run (over cut.opening next.entries events)
    pub built : (d : ℕ) → phase_of cut.events d ≡ Ended → phase_of events d ≡ Ended
    pub same : (d : ℕ) → (phase_of cut.events d ≡ Ended → ⊥)
        → IsSamePhase (phase_of next.events d) (phase_of events d)

  module _ (next : History) (opening : next.opening ≡ cut.entries) where
    -- a derivation that is free after the cut was not built before it
    pub unbuilt_by : (d : ℕ) → precondition_in run next d ≡ Free → phase_of cut.events d ≡ Ended → ⊥
    unbuilt_by d free =
        free_unbuilt may run cut is_cut d
        (subst (λ (opens : List Entry). precondition_at (terms_of run) opens
        (slice_get run.graph.nodes d) ≡ Free) opening free)

    -- one that was not built stands as it did
    pub stands_as : (d : ℕ) → (phase_of cut.events d ≡ Ended → ⊥)
        → precondition_in run next d
        ≡ precondition_at (terms_of run) cut.opening (slice_get run.graph.nodes d)
    stands_as d unbuilt =
        ap (λ (opens : List Entry). precondition_at (terms_of run) opens
        (slice_get run.graph.nodes d))
        opening
        ∙ stands_same may run cut is_cut d unbuilt

    module _ (joined : IsJoined next) where
      abbrev joined_here : History
      joined_here = over cut.opening next.entries joined.events

      -- what is good after the cut is good in the whole
      pub good_joined : (i : ℕ) → is_good (state_in run next i) ≡ true
          → is_good (state_in run joined_here i) ≡ true
      good_joined i good =
          ⊎_elim
          (λ ends. is_good_by run joined_here is_cut.plan i (good_ended (joined.built i ends)))
          (λ fresh. by fresh (good_is run next is_cut.plan i good))
          (ended_or_not (phase_of cut.events i))
        where
          by : (phase_of cut.events i ≡ Ended → ⊥) → IsGoodBy run next i
              → is_good (state_in run joined_here i) ≡ true
          by fresh (good_ended ends) =
              is_good_by run joined_here is_cut.plan i
              (good_ended
              (subst (λ p. IsSamePhase p (phase_of joined.events i)) ends (joined.same i fresh)))
          by fresh (good_reused rests stands) =
              is_good_by run joined_here is_cut.plan i
              (good_reused
              (subst (λ p. IsSamePhase p (phase_of joined.events i)) rests (joined.same i fresh))
              (sym (stands_as i fresh) ∙ stands))
          by fresh (good_twin t rests twin ends) =
              absurd (none_earlier run is_cut.twins next.opening i t twin)

  -- ---- one event more

  module _ (history : History) (opening : history.opening ≡ cut.entries)
      (legal : IsLegal run history) (before : IsJoined history) (e : ℕ) where
    abbrev so_far : History
    so_far = over cut.opening history.entries before.events

    abbrev next_lease : ℕ
    next_lease = begins before.events

    joined_begin : e < length run.graph.nodes → IsWanted run history.opening e
        → state_in run history e ≡ Ready → IsJoined (begun history e)
    joined_begin within wanted ready =
        let un = ready_unhindered run history is_cut.plan e ready in
        let unbuilt = unbuilt_by history opening e un.free in
        let idle : phase_of before.events e ≡ Idle =
        subst (λ p. IsSamePhase p (phase_of before.events e)) (ready_is_idle run history e ready)
        (before.same e unbuilt) in
        let free_now : IsUnhindered run so_far e = record {
          free = sym (stands_as history opening e unbuilt) ∙ un.free;
          spent = λ t has. absurd (none_earlier run is_cut.twins cut.opening e t has);
          good = λ i has. good_joined history opening before i (un.good i has);
        } in
        let lease = begins history.events in
        record {
          events = before.events ++ Begin e next_lease ∷ [];
          legal = legal_begin so_far e before.legal within
              (was_wanted may run cut is_cut e
              (subst (λ (opens : List Entry). IsWanted run opens e) opening wanted))
              (unhindered_ready run so_far is_cut.plan e free_now idle);
          answered = answered_begin so_far e before.answered;
          built = λ d ends. stays_ended before.events (Begin e next_lease)
              (idle_unbuilt (phase_of before.events e) idle) d (before.built d ends);
          same = λ d fresh. same_push history.events before.events (Begin e lease)
              (Begin e next_lease) e
              refl refl
              (same_by _ _ (Begun lease) (Begun next_lease) (phase_begun history.events e lease)
              (phase_begun before.events e next_lease) (next_lease, refl))
              d (before.same d fresh);
        }

    module _ (lease : ℕ) (phase : phase_of history.events e ≡ Begun lease) where
      begun_free : precondition_in run history e ≡ Free
      begun_free = (begun_unhindered run is_cut.plan history legal e
          (begun_moved (phase_of history.events e) lease phase)).free

      there : (other : ℕ) × (phase_of before.events e ≡ Begun other)
      there = subst (λ p. IsSamePhase p (phase_of before.events e)) phase
          (before.same e (unbuilt_by history opening e begun_free))

      joined_done : (node own : Node) (infos given : List PathInfo) (entry : Entry)
          → slice_get run.graph.nodes e ≡ Some node
          → IsAllowed run.graph history.entries node infos → IsEntryOf node infos entry
          → slice_get run.graph.nodes e ≡ Some own
          → IsVerdictAfter gives run history.entries e (Ok given) → IsEntryOf own given entry
          → IsJoined (ended history e lease entry)
      joined_done node own infos given entry at allowed is_entry own_at came own_entry = record {
        events = before.events ++ Finish e there.0 ∷ [];
        legal = legal_done so_far e there.0 node infos entry before.legal there.1 at allowed
            is_entry;
        answered = answered_done so_far e there.0 own given entry before.answered own_at came
            own_entry;
        built = λ d ends. stays_ended before.events (Finish e there.0)
            (begun_unbuilt (phase_of before.events e) there.0 there.1) d (before.built d ends);
        same = λ d fresh. same_push history.events before.events (Finish e lease)
            (Finish e there.0) e refl refl
            (same_by _ _ Ended Ended (phase_ended history.events e lease)
            (phase_ended before.events e there.0) refl)
            d (before.same d fresh);
      }

      joined_fail : (reason : Reason)
          → (reason ≡ OutOfMemory) ⊎ IsVerdictAfter gives run history.entries e (Err reason)
          → IsJoined (failed history e lease reason)
      joined_fail reason why = record {
        events = before.events ++ Fail e there.0 reason ∷ [];
        legal = legal_fail so_far e there.0 reason before.legal there.1;
        answered = answered_fail so_far e there.0 reason before.answered why;
        built = λ d ends. stays_ended before.events (Fail e there.0 reason)
            (begun_unbuilt (phase_of before.events e) there.0 there.1) d (before.built d ends);
        same = λ d fresh. same_push history.events before.events (Fail e lease reason)
            (Fail e there.0 reason) e refl refl
            (same_by _ _ (Broken reason) (Broken reason)
            (phase_broken history.events e lease reason)
            (phase_broken before.events e there.0 reason) refl)
            d (before.same d fresh);
      }

  -- what was given before the cut passes on, where it was built
  pub joined : PassesOn may gives run is_cut.plan is_cut.twins cut → (next : History)
      → IsLegal run next → IsAnswered gives run next → next.opening ≡ cut.entries → IsJoined next
  joined passes _ (legal_opening entries journal) answered opening =
      let first = kept may gives run is_cut.plan is_cut.twins cut is_cut.legal is_cut.answered
      passes in
      record {
        events = first.events;
        legal = subst (λ (es : List Entry). IsLegal run (over cut.opening es first.events))
            (sym opening) first.legal;
        answered = subst
            (λ (es : List Entry). IsAnswered gives run (over cut.opening es first.events))
            (sym opening) first.answered;
        built = first.built;
        same = λ d fresh. first.rests d fresh;
      }
  joined passes _ (legal_begin history e legal within wanted ready) answered opening =
      joined_begin history opening legal
      (joined passes history legal (answered_before_begin gives run _ answered history e refl)
      opening) e within wanted ready
  joined passes _ (legal_done history e lease node infos entry legal phase at allowed is_entry)
      answered opening =
      let was = answered_by_done gives run _ answered history e lease entry refl in
      joined_done history opening legal (joined passes history legal was.before opening) e lease
      phase node was.node infos was.infos entry at allowed is_entry was.is_node was.came
      was.is_entry
  joined passes _ (legal_fail history e lease reason legal phase) answered opening =
      let was = answered_by_fail gives run _ answered history e lease reason refl in
      joined_fail history opening legal (joined passes history legal was.before opening) e lease
      phase reason was.why
