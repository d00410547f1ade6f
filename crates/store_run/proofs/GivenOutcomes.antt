-- What builders gave in a run decides what the run leaves behind.
use Rattle.std.proofs.Common.{◌≡◌, ◌∙◌, ◌⊎◌, inl, inr, ℕ, Bool, true, false, List, Result, Ok, Err, refl, sym, ap, subst, ⊎_elim, rules}
use Rattle.std.specs.Prelude.{if◌then◌else◌}
use Rattle.std.proofs.Math.Dec.{eqb}
use Rattle.nix_drv.proofs.Fixed.{eqb_same}
use Rattle.drv_graph.specs.Plans.{Graph}
use Rattle.valid_table.specs.PathInfos.{PathInfo}
use Rattle.valid_table.specs.declared.entry.Entry.{Entry}
use Rattle.run_states.specs.Legal.{begins}
use Rattle.run_states.specs.Runs.{History, Run}
use Rattle.run_states.specs.States.{Phase, Idle, Begun, Ended, Broken, phase_of}
use Rattle.build_outcome.specs.declared.job.Answer.{Answer}
use Rattle.build_outcome.specs.declared.job.Job.{Job}
use Rattle.run_states.specs.declared.state.Event.TheVariants.{Begin, Done as Finish}
use Rattle.build_outcome.specs.declared.reason.Reason.{Reason}
use Rattle.build_outcome.specs.declared.reason.Reason.TheVariants.{OutOfMemory}
use Rattle.run_states.proofs.Histories.{ready_is_idle}
use Rattle.run_states.proofs.Seeds.{same_number}
use Rattle.store_run.specs.Builders.{IsAnswered, IsVerdictAfter, IsVerdictOn, answered_begin, answered_done, answered_fail, answered_opening}
use Rattle.store_run.specs.GivenOutcomes.{EqualOutcomesAreAlike, GivesEach, OutcomesDecide}
use Rattle.store_run.specs.Scheduling.{HasOneOutcome, IsEndedRun, IsWholeRun}
use Rattle.store_run.proofs.OneThreads.{has_one_thread}
use Rattle.store_run.proofs.SameTests.{one_for_both}
use Rattle.store_run.proofs.Schedules.{any_schedule, one_report_of, whole_runs_are_alike}
use Rattle.store_run.proofs.Telling.{phase_broken, phase_ended}
use Rattle.store_run.proofs.ToldRuns.{IsTold, told_begin, told_done, told_fail, told_from, told_opening}
use Rattle.run_states.proofs.OtherEvents.{phase_other, same_or_other}

-- ---- the outcomes that were given

-- something has become of a derivation
abbrev pub IsOver : Phase → Type 0
IsOver Idle = ⊥
IsOver (Begun lease) = ⊥
IsOver Ended = Unit {0}
IsOver (Broken reason) = Unit {0}

over_idle : (p : Phase) → p ≡ Idle → IsOver p → ⊥
over_idle p is over = subst IsOver is over

over_begun : (p : Phase) (lease : ℕ) → p ≡ Begun lease → IsOver p → ⊥
over_begun p lease is over = subst IsOver is over

module _ (excused : Reason → Type 0) (may : Job → Result Answer Reason → Type 0) (run : Run) where
  -- the outcome after a verdict, or after a Fail that may be excused
  abbrev outcome_after : (entries : List Entry) (d : ℕ) (verdict : Result (List PathInfo) Reason)
      → IsVerdictAfter may run entries d verdict → Result Answer Reason
  outcome_after entries d verdict ending = ending.ends_as.0

  abbrev outcome_failed : (entries : List Entry) (d : ℕ) (reason : Reason)
      → excused reason ⊎ IsVerdictAfter may run entries d (Err reason) → Result Answer Reason
  outcome_failed entries d reason (inl excuse) = Err OutOfMemory
  outcome_failed entries d reason (inr ending) = outcome_after entries d (Err reason) ending

  -- what each derivation was given, where anything became of it
  abbrev pub outcomes_in : (history : History) → IsTold excused may run history → ℕ
      → Result Answer Reason
  outcomes_in _ (told_opening entries journal) d = Err OutOfMemory
  outcomes_in _ (told_begin history e told legal can) d = outcomes_in history told d
  outcomes_in _ (told_done history e lease node infos entry told legal phase at came is_entry) d =
      if eqb e d then outcome_after history.entries e (Ok infos) came
      else outcomes_in history told d
  outcomes_in _ (told_fail history e lease reason told legal phase why) d =
      if eqb e d then outcome_failed history.entries e reason why
      else outcomes_in history told d

  module _ (outcomes : ℕ → Result Answer Reason) where
    given_after : (entries : List Entry) (d : ℕ) (verdict : Result (List PathInfo) Reason)
        (ending : IsVerdictAfter may run entries d verdict)
        → ending.ends_as.0 ≡ outcomes d
        → IsVerdictAfter (GivesEach may outcomes) run entries d verdict
    given_after entries d verdict ending is = record {
      job = ending.job;
      is_job = ending.is_job;
      ends_as = (
        ending.ends_as.0,
        (ending.ends_as.1, is ∙ ap outcomes (sym ending.is_job.derivation)),
        ending.ends_as.2,
      );
    }

    given_failed : (entries : List Entry) (d : ℕ) (reason : Reason)
        (why : excused reason ⊎ IsVerdictAfter may run entries d (Err reason))
        → outcome_failed entries d reason why ≡ outcomes d
        → excused reason ⊎ IsVerdictAfter (GivesEach may outcomes) run entries d (Err reason)
    given_failed entries d reason (inl excuse) is = inl excuse
    given_failed entries d reason (inr ending) is = inr (given_after _ d _ ending is)

    -- of an event the outcome is that of its derivation, and the others keep theirs
    here : (d : ℕ) (given rest : Result Answer Reason)
        → (if eqb d d then given else rest) ≡ outcomes d → given ≡ outcomes d
    here d given rest is = search (rules, given, eqb_same)

    elsewhere : (e d : ℕ) (given rest : Result Answer Reason) → (e ≡ d → ⊥)
        → (if eqb e d then given else rest) ≡ outcomes d → rest ≡ outcomes d
    elsewhere e d given rest other is = by (eqb e d) refl is
      where
        by : (same : Bool) → eqb e d ≡ same → (if same then given else rest) ≡ outcomes d
            → rest ≡ outcomes d
        by true same is = absurd (other (same_number e d same))
        by false same is = is

    -- where the listed outcomes are those that were given
    pub given_in : (history : History) (told : IsTold excused may run history)
        → ((d : ℕ) → IsOver (phase_of history.events d) → outcomes_in history told d ≡ outcomes d)
        → IsTold excused (GivesEach may outcomes) run history
    given_in _ (told_opening entries journal) are = told_opening entries journal
    given_in _ (told_begin history e told legal can) are =
        told_begin history e (given_in history told (λ d over.
        ⊎_elim
        (λ same. absurd (over_idle _
        (subst (λ n. phase_of history.events n ≡ Idle) same
        (ready_is_idle _ history e can.ready)) over))
        (λ other. are d (subst IsOver
        (sym (phase_other history.events (Begin e (begins history.events)) d other)) over))
        (same_or_other e d))) legal can
    given_in _ (told_done history e lease node infos entry told legal phase at came is_entry) are =
        told_done history e lease node infos entry
        (given_in history told (λ d over.
        ⊎_elim
        (λ same. absurd (over_begun _ _
        (subst (λ n. phase_of history.events n ≡ Begun lease) same phase) over))
        (λ other. elsewhere e d _
        _ other (are d (subst IsOver
        (sym (phase_other history.events (Finish e lease) d other)) over)))
        (same_or_other e d)))
        legal phase at
        (given_after _ e _ came
        (here e (outcome_after history.entries e (Ok infos) came) _
        (are e (subst IsOver (sym (phase_ended history.events e lease)) tt))))
        is_entry
    given_in _ (told_fail history e lease reason told legal phase why) are =
        told_fail history e lease reason
        (given_in history told (λ d over.
        ⊎_elim
        (λ same. absurd (over_begun _ _
        (subst (λ n. phase_of history.events n ≡ Begun lease) same phase) over))
        (λ other. elsewhere e d _
        _ other (are d (subst IsOver
        (sym (phase_other history.events _ d other)) over)))
        (same_or_other e d)))
        legal phase
        (given_failed history.entries e reason why
        (here e (outcome_failed history.entries e reason why) (outcomes_in history told e)
        (are e (subst IsOver (sym (phase_broken history.events e lease reason)) tt))))

-- a told history is answered
pub answered_from : (may : Job → Result Answer Reason → Type 0) (run : Run) (history : History)
    → IsTold (λ reason. reason ≡ OutOfMemory) may run history → IsAnswered may run history
answered_from may run _ (told_opening entries journal) = answered_opening entries
answered_from may run _ (told_begin history d told legal can) =
    answered_begin history d (answered_from may _ _ told)
answered_from may run _
    (told_done history d lease node infos entry told legal phase at came is_entry) =
    answered_done history d lease node infos entry (answered_from may _ _ told) at came is_entry
answered_from may run _ (told_fail history d lease reason told legal phase why) =
    answered_fail history d lease reason (answered_from may _ _ told) why

-- ---- where each derivation is given one outcome

one_outcome : (may : Job → Result Answer Reason → Type 0) (outcomes : ℕ → Result Answer Reason)
    (graph : Graph) → HasOneOutcome (GivesEach may outcomes) graph
one_outcome may outcomes graph d job again registrations permitted x y a b is is' gives gives' on
    on' =
    by x on
    (subst (λ (o : Result Answer Reason). IsVerdictOn registrations again permitted o b) (sym same)
    on')
  where
    same : x ≡ y
    same = search (rules, outcomes)

    by : (outcome : Result Answer Reason) → IsVerdictOn registrations job permitted outcome a
        → IsVerdictOn registrations again permitted outcome b → a ≡ b
    by (Ok answer) on on' =
        one_for_both graph d job again is is' registrations permitted answer a b on on'
    by (Err reason) on on' = on ∙ sym on'

-- such a run is a whole one
pub whole_by : (may : Job → Result Answer Reason → Type 0) (run : Run) (history : History)
    (outcomes : ℕ → Result Answer Reason) → IsEndedRun (GivesEach may outcomes) run history
    → IsWholeRun (GivesEach may outcomes) run history
whole_by may run history outcomes end = search (rules, one_outcome, outcomes)

pub outcomes_decide : (may : Job → Result Answer Reason → Type 0) → OutcomesDecide may
outcomes_decide may run history end = (
  outcomes,
  record {
    given = given;
    alike = λ other one. any_schedule gives run history other whole one;
    report = λ other a b one of_a of_b.
        one_report_of gives run history other a b whole one of_a of_b;
    thread = has_one_thread gives run history whole;
  },
)
  where
    told : IsTold (λ reason. reason ≡ OutOfMemory) may run history
    told = search (rules, told_from)

    outcomes : ℕ → Result Answer Reason
    outcomes = outcomes_in (λ reason. reason ≡ OutOfMemory) may run history told

    gives : Job → Result Answer Reason → Type 0
    gives = GivesEach may outcomes

    given : IsAnswered (GivesEach may outcomes) run history
    given = answered_from (GivesEach may outcomes) _ _
        (given_in (λ reason. reason ≡ OutOfMemory) _ run outcomes history told (λ d over. refl))

    whole : IsWholeRun (GivesEach may outcomes) run history
    whole = search (rules, whole_by, outcomes, given)

pub equal_outcomes_are_alike : (may : Job → Result Answer Reason → Type 0)
    → EqualOutcomesAreAlike may
equal_outcomes_are_alike may run history other outcomes end end' opening =
    search (rules, whole_runs_are_alike, outcomes, whole_by)
