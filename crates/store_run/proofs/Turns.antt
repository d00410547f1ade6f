-- A history in which all derivations had their turns is a legal one that is settled, and tells what
-- each event follows from, without an excuse.
use Rattle.std.proofs.Common.{◌≡◌, ◌&&◌, cond, ◌∙◌, ◌⊎◌, inl, inr, ◌<◌, ◌≤◌, ℕ, zero, suc, Bool, true, false, List, [], ◌∷◌, length, Result, Ok, Err, Option, Some, None, refl, sym, ap, subst, ⊎_elim, arith, rules}
use Rattle.std.specs.Prelude.{Contains, find, if◌then◌else◌, slice_get}
use Rattle.std.specs.List.{list_all, list_any}
use Rattle.std.proofs.lemmas.Bool.{and_from, false≢true}
use Rattle.std.specs.Cmp.Lexicographic.{nat_list_eq_equiv}
use Rattle.std.proofs.lemmas.Map.Views.{list_any-from_Contains}
use Rattle.nix_names.proofs.Lists.{Contains-first, Contains-later, either_side}
use Rattle.drv_graph.specs.Nodes.{Node}
use Rattle.drv_graph.specs.PlanNodes.{output_paths_of}
use Rattle.drv_graph.specs.SoundGraphs.{IsSound}
use Rattle.valid_table.specs.Entries.{registered}
use Rattle.valid_table.specs.PathInfos.{PathInfo}
use Rattle.valid_table.specs.Valid.{IsValid}
use Rattle.valid_table.specs.declared.entry.Entry.{Entry}
use Rattle.valid_table.proofs.ClosureLaws.{registers_from_valid}
use Rattle.run_states.specs.StateTables.{CanBegin, IsRunSettled}
use Rattle.run_states.specs.StateTables.{IsOpen}
use Rattle.run_states.specs.Legal.{IsAllowed, IsLegal, legal_begin, legal_done, legal_fail, legal_opening, begins, begun, ended, failed}
use Rattle.run_states.specs.Runs.{History, IsWanted, Run, is_valid, is_wanted, precondition_at, state_in, terms_of, wanted_input}
use Rattle.run_states.specs.States.{Idle, Ended, Broken, by_first, by_hindrance, by_phase, by_validity, is_bad, is_done, is_good, is_open, phase_of}
use Rattle.drv_graph.specs.Twins.{are_twins_at}
use Rattle.build_outcome.specs.declared.job.Answer.{Answer}
use Rattle.build_outcome.specs.declared.job.Job.{Job}
use Rattle.run_states.specs.declared.state.Event.TheVariants.{Begin, Done as Finish, Fail}
use Rattle.build_outcome.specs.declared.reason.Reason.{Reason}
use Rattle.run_states.specs.declared.state.State.{State}
use Rattle.run_states.specs.declared.state.State.TheVariants.{Blocked, Building, Done, Failed, Ready, Refused, Reused}
use Rattle.run_states.specs.declared.precondition.Precondition.{Precondition}
use Rattle.run_states.specs.declared.precondition.Precondition.TheVariants.{AllValid, Hindered, Free}
use Rattle.run_states.proofs.EarlierTwins.{twins_from}
use Rattle.sched_core.proofs.SharedOutputs.{sharers}
use Rattle.run_states.proofs.Histories.{ready_is_idle}
use Rattle.run_states.proofs.NearestTwins.{legal_ended, none_from}
use Rattle.run_states.proofs.PlanInputs.{inputs_first}
use Rattle.sched_core.proofs.Registrable.{verdicts_are_registrable}
use Rattle.run_states.proofs.TwinLaws.{is_earlier_twin, turned}
use Rattle.run_states.proofs.Wanting.{wanted_told}
use Rattle.sched_core.specs.VerdictLaws.{AreRegistrable}
use Rattle.store_run.specs.Builders.{IsOutcomeVerdict, IsVerdictAfter}
use Rattle.store_run.specs.OneThread.{HadTurns, IsOneThread, turn_done, turn_failed, turn_opening, turn_skipped}
use Rattle.store_run.proofs.OneOutcome.{refers_after}
use Rattle.store_run.proofs.Preconditions.{output_of_free}
use Rattle.store_run.proofs.Telling.{IsFrom, begun_is, from_built, from_is, from_opening, phase_begun, phase_broken, phase_ended}
use Rattle.store_run.proofs.ToldRuns.{IsTold, told_begin, told_done, told_fail, told_opening}
use Rattle.run_states.proofs.Unhindered.{ready_unhindered}
use Rattle.store_run.proofs.Unhindered.{aside_same, inputs_in, precondition_in, state_by, twins_in}
use Rattle.run_states.proofs.OtherEvents.{phase_other, same_or_other}
use Rattle.valid_table.proofs.Reaching.{valid_from_registers}

-- ---- states of the first derivations

-- an event of a derivation leaves the states of those before it
pub states_before : (run : Run) (sound : IsSound run.graph) (history after : History)
    → history.opening ≡ after.opening → (d : ℕ)
    → ((i : ℕ) → i < d → phase_of history.events i ≡ phase_of after.events i)
    → (bound e : ℕ) → e < bound → e < d → state_in run history e ≡ state_in run after e
states_before run sound history after opening d phases zero e low less = absurd (omega arith)
states_before run sound history after opening d phases (suc bound) e low less =
    state_by _ history sound e _ (phases e less)
    ∙ ap (by_phase (phase_of after.events e))
    (aside_same _ history after e opening
    (λ i has.
    let first = inputs_first _ sound e i has in
    states_before run sound history after opening d phases bound i (omega arith) (omega arith))
    (λ t has.
    let first = (is_earlier_twin _ _ e t has).earlier in
    states_before run sound history after opening d phases bound t (omega arith) (omega arith)))
    ∙ sym (state_by _ after sound e _ refl)

-- what isn't open is good or bad
not_open : (s : State) → (IsOpen s → ⊥) → (is_good s ≡ true) ⊎ (is_bad s ≡ true)
not_open Done closed = inl refl
not_open Reused closed = inl refl
not_open (Failed reason) closed = inr refl
not_open (Refused cause) closed = inr refl
not_open (Building lease) closed = absurd (closed (inr (inr (lease, refl))))
not_open Ready closed = absurd (closed (inr (inl refl)))
not_open Blocked closed = absurd (closed (inl refl))

pub closed_is : (s : State) → (IsOpen s → ⊥) → is_open s ≡ false
closed_is Done closed = refl
closed_is Reused closed = refl
closed_is (Failed reason) closed = refl
closed_is (Refused cause) closed = refl
closed_is (Building lease) closed = absurd (closed (inr (inr (lease, refl))))
closed_is Ready closed = absurd (closed (inr (inl refl)))
closed_is Blocked closed = absurd (closed (inl refl))

-- after such inputs nothing is blocked
all_good_or_bad : (f : ℕ → State) (inputs : List ℕ)
    → ((i : ℕ) → Contains inputs i → (is_good (f i) ≡ true) ⊎ (is_bad (f i) ≡ true))
    → find (λ i. is_bad (f i)) inputs ≡ None → list_all (λ i. is_good (f i)) inputs ≡ true
all_good_or_bad f [] closed none = refl
all_good_or_bad f (i ∷ is) closed none =
    by (is_good (f i)) (is_bad (f i)) (closed i (Contains-first i _))
    (all_good_or_bad f is (λ j has. closed j (Contains-later i is j has))) none
  where
    by : (good bad : Bool) → (good ≡ true) ⊎ (bad ≡ true)
        → (find (λ j. is_bad (f j)) is ≡ None → list_all (λ j. is_good (f j)) is ≡ true)
        → cond bad (Some i) (find (λ j. is_bad (f j)) is) ≡ None
        → (good && list_all (λ j. is_good (f j)) is) ≡ true
    by good true closed rest none = absurd cc
    by true false closed rest none = rest none
    by false false (inl is) rest none = absurd cc
    by false false (inr is) rest none = absurd cc

never_blocked : (first : Option ℕ) (all : Bool) → (first ≡ None → all ≡ true)
    → by_first first all ≡ Blocked → ⊥
never_blocked (Some i) all closed is = cc
never_blocked None true closed is = cc
never_blocked None false closed is = search (rules, closed)

-- a derivation without an event is open only where it is ready, or an earlier twin or an input of
-- it is open
idle_open : (precondition : Precondition) (built still : Bool) (first : Option ℕ) (all : Bool)
    → still ≡ false → (precondition ≡ Free → first ≡ None → all ≡ true)
    → IsOpen (by_phase Idle (by_validity precondition (if built then Reused
    else if still then Blocked
    else by_hindrance precondition (by_first first all))))
    → by_phase Idle (by_validity precondition (if built then Reused else if still then Blocked
    else by_hindrance precondition (by_first first all))) ≡ Ready
idle_open precondition built true first all none closed is = absurd (false≢true (sym none))
idle_open AllValid built false first all none closed (inl is) = absurd cc
idle_open AllValid built false first all none closed (inr (inl is)) = is
idle_open AllValid built false first all none closed (inr (inr is)) =
    let clash = is.1 in absurd cc
idle_open (Hindered cause) true false first all none closed (inl is) = absurd cc
idle_open (Hindered cause) true false first all none closed (inr (inl is)) = is
idle_open (Hindered cause) true false first all none closed (inr (inr is)) =
    let clash = is.1 in absurd cc
idle_open (Hindered cause) false false first all none closed (inl is) = absurd cc
idle_open (Hindered cause) false false first all none closed (inr (inl is)) = is
idle_open (Hindered cause) false false first all none closed (inr (inr is)) =
    let clash = is.1 in absurd cc
idle_open Free true false first all none closed (inl is) = absurd cc
idle_open Free true false first all none closed (inr (inl is)) = is
idle_open Free true false first all none closed (inr (inr is)) = let clash = is.1 in absurd cc
idle_open Free false false first all none closed (inl is) =
    absurd (never_blocked _ _ (closed refl) is)
idle_open Free false false first all none closed (inr (inl is)) = is
idle_open Free false false first all none closed (inr (inr is)) =
    absurd (never_building first all is.0 is.1)
  where
    never_building : (first : Option ℕ) (all : Bool) (lease : ℕ)
        → by_first first all ≡ Building lease → ⊥
    never_building (Some i) all lease is = cc
    never_building None true lease is = cc
    never_building None false lease is = cc

-- ---- the turns

-- What holds once the derivations below a number had their turns.
pub record HaveTurned (may : Job → Result Answer Reason → Type 0) (run : Run) (opening : List Entry)
    (count : ℕ) (history : History)
    : Type 0 where
  pub legal : IsLegal run history
  pub told : IsTold (λ reason. ⊥) may run history
  pub opening_is : history.opening ≡ opening
  pub rest : (d : ℕ) → count ≤ d → phase_of history.events d ≡ Idle
  pub closed : (d : ℕ) → d < count → d < length run.graph.nodes → IsWanted run opening d
      → IsOpen (state_in run history d) → ⊥

module _ (may : Job → Result Answer Reason → Type 0) (run : Run) (sound : IsSound run.graph)
    (opening : List Entry) where
  -- the records of a verdict may be registered
  module _ (history : History) (told : IsTold (λ reason. ⊥) may run history)
      (legal : IsLegal run history) (d : ℕ) (node : Node)
      (infos : List PathInfo) (at : slice_get run.graph.nodes d ≡ Some node)
      (can : CanBegin run history d) (ending : IsVerdictAfter may run history.entries d (Ok infos))
    where
      outputs_new : (path : List ℕ) → Contains (output_paths_of node.drv) path
          → IsValid (registered history.entries) path → ⊥
      outputs_new path own valid =
          let had = registers_from_valid _ _ valid in
          by had.0 (from_is (λ reason. ⊥) may _ _ told _ _ had.1)
        where
          -- no twin was built: an earlier one would stand for this one, and a later one would have
          -- begun after it
          made_once : (e : ℕ) → phase_of history.events e ≡ Ended
              → are_twins_at (slice_get run.graph.nodes d) (slice_get run.graph.nodes e) ≡ true
              → (d ≡ e) ⊎ ((d < e) ⊎ (e < d)) → ⊥
          made_once e ends twins (inl same) = search (rules, ready_is_idle)
          made_once e ends twins (inr (inl less)) =
              let moved : phase_of history.events e ≡ Idle → ⊥ =
              λ idle. let clash : Idle ≡ Ended = sym idle ∙ ends in cc in
              let wanted : is_wanted run history.opening d ≡ true =
              (wanted_told run history.opening d sound).1 can.wanted in
              let bad = legal_ended _ _ legal e d moved
              (twins_from _ _ e d less (and_from _
              _ wanted
              twins)) in
              let clash : false ≡ true = sym (ap is_bad can.ready) ∙ bad in
              cc
          made_once e ends twins (inr (inr more)) =
              let un = ready_unhindered _ history sound d can.ready in
              let moved : phase_of history.events e ≡ Idle → ⊥ =
              λ idle. let clash : Idle ≡ Ended = sym idle ∙ ends in cc in
              let was = begun_is (λ reason. ⊥) may _ sound _ told e moved in
              let wanted : is_wanted run history.opening e ≡ true =
              (wanted_told run history.opening e sound).1 was.wanted in
              let bad = un.spent e (twins_from _ _ d e more
              (and_from _
              _ wanted
              (turned _ (slice_get run.graph.nodes e) twins))) in
              let done = ap is_bad (state_by _ history sound e _ ends) in
              let clash : false ≡ true = sym done ∙ bad in
              cc

          by : (info : PathInfo) → IsFrom run history path info → ⊥
          by info (from_opening has) =
              let un = ready_unhindered _ history sound d can.ready in
              let none : is_valid history.opening path ≡ false =
              output_of_free _ history.opening node.drv
              (sym (ap (precondition_at (terms_of run) history.opening) at) ∙ un.free) _ own in
              let some : is_valid history.opening path ≡ true =
              list_any-from_Contains nat_list_eq_equiv _
              _
              (valid_from_registers _ _ _ has) in
              let clash : false ≡ true = sym none ∙ some in
              cc
          by info (from_built e other at' ends own') =
              search (rules, made_once, sharers, either_side)

      registrable : (permitted : List (List ℕ)) × AreRegistrable node permitted infos
      registrable = by ending.ends_as.0 ending.ends_as.2
        where
          by : (outcome : Result Answer Reason)
              → IsOutcomeVerdict history.entries ending.job outcome (Ok infos)
              → (permitted : List (List ℕ)) × AreRegistrable node permitted infos
          by (Ok answer) is = (
            is.0,
            verdicts_are_registrable run.graph d ending.job node is.0 answer infos ending.is_job at
                is.2.0,
          )
          by (Err reason) is = let no = is.2 in absurd cc

      allowed : IsAllowed run.graph history.entries node infos
      allowed = record {
        records = registrable.1.records;
        new = outputs_new;
        permitted = refers_after may _ _ d _ _ at ending;
      }

  -- a turn that was passed over
  skipped : (d : ℕ) (history : History) → HaveTurned may run opening d history
      → (CanBegin run history d → ⊥) → HaveTurned may run opening (suc d) history
  skipped d history turned cannot = record {
    legal = turned.legal;
    told = turned.told;
    opening_is = turned.opening_is;
    rest = λ e past. turned.rest e (omega arith);
    closed = λ e low within wanted still. ⊎_elim
        (λ same. here (subst (λ n. n < length run.graph.nodes) same within)
        (subst (IsWanted run opening) same wanted)
        (subst (λ n. IsOpen (state_in run history n)) same still))
        (λ other. turned.closed e (omega (arith, other)) within wanted still)
        (same_or_other e d);
  }
    where
      closed_input : d < length run.graph.nodes → IsWanted run opening d
          → precondition_in run history d ≡ Free → (i : ℕ) → Contains (inputs_in run d) i
          → (is_good (state_in run history i) ≡ true) ⊎ (is_bad (state_in run history i) ≡ true)
      closed_input within wanted free i has =
          let less = inputs_first run.graph sound d i has in
          not_open (state_in run history i)
          (turned.closed i less (omega arith)
          (wanted_input d i wanted
          (subst (λ (opens : List Entry). precondition_at (terms_of run) opens
          (slice_get run.graph.nodes d) ≡ Free) turned.opening_is free) has))

      closed_twin : d < length run.graph.nodes → (t : ℕ) → Contains (twins_in run history d) t
          → is_open (state_in run history t) ≡ false
      closed_twin within t has =
          let is = is_earlier_twin run history.opening d t has in
          let less = is.earlier in
          let wanted = subst (λ (opens : List Entry). IsWanted run opens t) turned.opening_is
          ((wanted_told run history.opening t sound).0 is.wanted) in
          closed_is (state_in run history t) (turned.closed t less (omega arith) wanted)

      here : d < length run.graph.nodes → IsWanted run opening d → IsOpen (state_in run history d)
          → ⊥
      here within wanted still =
          let f = state_in run history in
          let inputs = inputs_in run d in
          let idle = turned.rest d (omega arith) in
          let is = state_by run history sound d Idle idle in
          let twins = twins_in run history d in
          let ready = idle_open (precondition_in run history d)
          (list_any (λ t. is_done (f t)) twins)
          (list_any (λ t. is_open (f t)) twins) (find (λ i. is_bad (f i)) inputs)
          (list_all (λ i. is_good (f i)) inputs)
          (none_from (λ t. is_open (f t)) twins (closed_twin within))
          (λ free. all_good_or_bad f inputs (closed_input within wanted free))
          (subst IsOpen is still) in
          cannot (record {
            within = within;
            wanted = subst (λ (opens : List Entry). IsWanted run opens d) (sym turned.opening_is)
                wanted;
            ready = is ∙ ready;
          })

  -- a turn in which the derivation began, and ended at once
  module _ (d : ℕ) (history after : History) (turned : HaveTurned may run opening d history)
      (opening_same : history.opening ≡ after.opening)
      (phases : (i : ℕ) → (d ≡ i → ⊥) → phase_of after.events i ≡ phase_of history.events i) where
    turned_more : IsLegal run after → IsTold (λ reason. ⊥) may run after
        → (IsOpen (state_in run after d) → ⊥) → HaveTurned may run opening (suc d) after
    turned_more legal told ends = record {
      legal = legal;
      told = told;
      opening_is = sym opening_same ∙ turned.opening_is;
      rest = λ e past. phases e (λ same. omega (arith, past, same)) ∙ turned.rest e (omega arith);
      closed = λ e low within wanted still. ⊎_elim
          (λ same. ends (subst (λ n. IsOpen (state_in run after n)) same still))
          (λ other.
          let less : e < d = omega (arith, low, other) in
          turned.closed e less within wanted
          (subst IsOpen
          (sym (states_before run sound history after opening_same d
          (λ i before. sym (phases i (λ same. omega (arith, before, same)))) (suc e) e (omega arith)
          less)) still))
          (same_or_other e d);
    }

  done_is_closed : IsOpen Done → ⊥
  done_is_closed (inl is) = cc
  done_is_closed (inr (inl is)) = cc
  done_is_closed (inr (inr is)) = let clash = is.1 in cc

  failed_is_closed : (reason : Reason) → IsOpen (Failed reason) → ⊥
  failed_is_closed reason (inl is) = cc
  failed_is_closed reason (inr (inl is)) = cc
  failed_is_closed reason (inr (inr is)) = let clash = is.1 in cc

  pub turned_is : (count : ℕ) (history : History) → HadTurns may run opening count history
      → HaveTurned may run opening count history
  turned_is _ _ (turn_opening journal) = record {
    legal = legal_opening opening journal;
    told = told_opening opening journal;
    opening_is = refl;
    rest = λ d past. refl;
    closed = λ d low within wanted still. absurd (omega arith);
  }
  turned_is _ _ (turn_skipped d history had cannot) = skipped d _ (turned_is d _ had) cannot
  turned_is _ _ (turn_done d history node infos entry had can at ending is_entry) =
      let turned = turned_is d _ had in
      let lease = begins history.events in
      let middle = begun history d in
      let after = ended middle d lease entry in
      let phase = phase_begun history.events d _ in
      let legal = legal_begin history d turned.legal can.within can.wanted can.ready in
      turned_more d history after turned refl
      (λ i other. phase_other middle.events (Finish d lease) i other
      ∙ phase_other history.events (Begin d lease) i other)
      (legal_done middle d lease node infos entry legal phase at
      (allowed history turned.told turned.legal d node infos at can ending) is_entry)
      (told_done middle d lease node infos entry (told_begin history d turned.told turned.legal can)
      legal phase at ending is_entry)
      (λ still. done_is_closed
      (subst IsOpen (state_by _ after sound d _ (phase_ended middle.events d lease)) still))
  turned_is _ _ (turn_failed d history reason had can ending) =
      let turned = turned_is d _ had in
      let lease = begins history.events in
      let middle = begun history d in
      let after = failed middle d lease reason in
      let phase = phase_begun history.events d _ in
      let legal = legal_begin history d turned.legal can.within can.wanted can.ready in
      turned_more d history after turned refl
      (λ i other. phase_other middle.events (Fail d lease reason) i other
      ∙ phase_other history.events (Begin d lease) i other)
      (legal_fail middle d lease reason legal phase)
      (told_fail middle d lease reason (told_begin history d turned.told turned.legal can) legal
      phase (inr ending))
      (λ still. failed_is_closed reason
      (subst IsOpen
      (state_by run after sound d (Broken reason) (phase_broken middle.events d lease reason))
      still))

  pub turned_settled : (history : History) → IsOneThread may run opening history
      → IsRunSettled run history
  turned_settled history had d within wanted still = search (rules, turned_is)
