-- *Any interruption*: a run that was cut and taken up ends as one thread ends that is
-- given the same outcomes.
use Rattle.std.proofs.Common.{◌≡◌, ◌∙◌, ◌⊎◌, inl, inr, ℕ, Bool, true, false, cond, List, length, Result, Ok, Err, refl, sym, ap, subst, ⊎_elim}
use Rattle.std.specs.Prelude.{◌↔◌, Contains}
use Rattle.valid_table.specs.PathInfos.{PathInfo}
use Rattle.valid_table.specs.declared.entry.Entry.{Entry}
use Rattle.build_outcome.specs.declared.job.Answer.{Answer}
use Rattle.build_outcome.specs.declared.job.Job.{Job}
use Rattle.build_outcome.specs.declared.reason.Reason.{Reason}
use Rattle.build_outcome.specs.declared.reason.Reason.TheVariants.{OutOfMemory}
use Rattle.run_report.specs.Reports.{outputs_at}
use Rattle.run_report.proofs.OneReport.{lines_alike}
use Rattle.run_states.specs.Runs.{History, IsWanted, Run, state_in, wanted_root}
use Rattle.run_states.specs.States.{Phase, Idle, Begun, Ended, Broken, is_bad, is_done, is_good, phase_of}
use Rattle.run_states.specs.declared.state.State.{State}
use Rattle.run_states.specs.declared.state.State.TheVariants.{Done, Reused}
use Rattle.run_states.proofs.Seeds.{done_is_ended}
use Rattle.run_states.proofs.Unhindered.{begun_unhindered}
use Rattle.store_run.specs.Builders.{IsAnswered, IsVerdictAfter, answered_begin, answered_done, answered_fail, answered_opening}
use Rattle.store_run.specs.GivenOutcomes.{GivesEach}
use Rattle.store_run.specs.Interruptions.{AnyInterruption, EndedAlike, CutsAreOne, GivesBuilt, IsCutRun, IsTakenUp, IsWantedAs}
use Rattle.store_run.specs.OneThread.{IsOneThread}
use Rattle.store_run.specs.Scheduling.{AreAlike, IsEndedRun, IsWholeRun}
use Rattle.store_run.proofs.CutOpenings.{ended_or_not, told, was_wanted}
use Rattle.store_run.proofs.AlikeNames.{one_in_both}
use Rattle.store_run.proofs.CutReports.{bad_lines_same}
use Rattle.store_run.proofs.CutStates.{bad_same, built_reused, good_or_bad, same_good, seen_wanted, spared_good, still_wanted, whole_memory, whole_settled}
use Rattle.store_run.proofs.CutsJoined.{IsJoined, IsSamePhase, joined, over, unbuilt_by}
use Rattle.store_run.proofs.GivenOutcomes.{IsOver, answered_from, given_in, outcomes_in, whole_by}
use Rattle.store_run.proofs.OneThreads.{has_one_thread}
use Rattle.store_run.proofs.Schedules.{any_schedule}
use Rattle.store_run.proofs.ToldRuns.{IsTold, told_from}
use Rattle.store_run.proofs.Turns.{turned_is}
use Rattle.store_run.proofs.Unhindered.{rows_in, state_by}

-- ---- what may be given, for another relation

module _ (one other : Job → Result Answer Reason → Type 0) (run : Run)
    (also : (job : Job) (outcome : Result Answer Reason) → one job outcome → other job outcome)
  where
    after_also : (entries : List Entry) (d : ℕ) (verdict : Result (List PathInfo) Reason)
        → IsVerdictAfter one run entries d verdict → IsVerdictAfter other run entries d verdict
    after_also entries d verdict ending = record {
      job = ending.job;
      is_job = ending.is_job;
      ends_as = (
        ending.ends_as.0,
        also ending.job ending.ends_as.0 ending.ends_as.1,
        ending.ends_as.2,
      );
    }

    answered_also : (history : History) → IsAnswered one run history
        → IsAnswered other run history
    answered_also _ (answered_opening entries) = answered_opening entries
    answered_also _ (answered_begin history d answered) =
        answered_begin history d (answered_also history answered)
    answered_also _ (answered_done history d lease node infos entry answered at came is_entry) =
        answered_done history d lease node infos entry (answered_also history answered) at
        (after_also history.entries d (Ok infos) came) is_entry
    answered_also _ (answered_fail history d lease reason answered why) =
        answered_fail history d lease reason (answered_also history answered)
        (⊎_elim (λ excuse. inl excuse)
        (λ came. inr (after_also history.entries d (Err reason) came)) why)

-- ---- the outcomes

abbrev is_ended : Phase → Bool
is_ended Ended = true
is_ended Idle = false
is_ended (Begun lease) = false
is_ended (Broken reason) = false

is_not_ended : (p : Phase) → (p ≡ Ended → ⊥) → is_ended p ≡ false
is_not_ended Ended fresh = absurd (fresh refl)
is_not_ended Idle fresh = refl
is_not_ended (Begun lease) fresh = refl
is_not_ended (Broken reason) fresh = refl

over_moved : (p : Phase) → IsOver p → p ≡ Idle → ⊥
over_moved p over idle = subst IsOver idle over

module _ (may : Job → Result Answer Reason → Type 0) (run : Run) (cut again : History)
    (taken : IsTakenUp may run cut again) where
  told_cut : IsTold (λ reason. reason ≡ OutOfMemory) may run cut
  told_cut = told may run cut taken.is_cut

  told_again : IsTold (λ reason. reason ≡ OutOfMemory) may run again
  told_again = told_from may run again taken.end.legal taken.end.answered

  -- what was given before the cut, and after it
  abbrev first_outcomes : ℕ → Result Answer Reason
  first_outcomes = outcomes_in (λ reason. reason ≡ OutOfMemory) may run cut told_cut

  abbrev second_outcomes : ℕ → Result Answer Reason
  second_outcomes = outcomes_in (λ reason. reason ≡ OutOfMemory) may run again told_again

  abbrev outcomes : ℕ → Result Answer Reason
  outcomes d = cond (is_ended (phase_of cut.events d)) (first_outcomes d) (second_outcomes d)

  outcome_first : (d : ℕ) → phase_of cut.events d ≡ Ended → first_outcomes d ≡ outcomes d
  outcome_first d ends =
      sym (ap (λ b. cond b (first_outcomes d) (second_outcomes d)) (ap is_ended ends))

  outcome_second : (d : ℕ) → (phase_of cut.events d ≡ Ended → ⊥)
      → second_outcomes d ≡ outcomes d
  outcome_second d fresh =
      sym (ap (λ b. cond b (first_outcomes d) (second_outcomes d))
      (is_not_ended (phase_of cut.events d) fresh))

  -- what became something after the cut was not built before it
  over_unbuilt : (d : ℕ) → IsOver (phase_of again.events d) → phase_of cut.events d ≡ Ended → ⊥
  over_unbuilt d over =
      unbuilt_by may may run cut taken.is_cut again taken.opening d
      (begun_unhindered run taken.is_cut.plan again taken.end.legal d
      (over_moved (phase_of again.events d) over)).free

  given : IsAnswered (GivesEach may outcomes) run again
  given = answered_from (GivesEach may outcomes) run again
      (given_in (λ reason. reason ≡ OutOfMemory) may run outcomes again told_again
      (λ d over. outcome_second d (over_unbuilt d over)))

  built : IsAnswered (GivesBuilt may cut outcomes) run cut
  built = answered_also (GivesEach may first_outcomes) (GivesBuilt may cut outcomes) run
      (λ job outcome gave. (
        gave.0,
        λ ends. gave.1 ∙ outcome_first job.derivation ends,
      ))
      cut
      (answered_from (GivesEach may first_outcomes) run cut
      (given_in (λ reason. reason ≡ OutOfMemory) may run first_outcomes cut told_cut
      (λ d over. refl)))

  -- ---- the whole

  cut_built : IsCutRun (GivesBuilt may cut outcomes) run cut
  cut_built = record {
    plan = taken.is_cut.plan;
    twins = taken.is_cut.twins;
    sources = taken.is_cut.sources;
    legal = taken.is_cut.legal;
    answered = built;
  }

  passes : (d : ℕ) (entries : List Entry) (infos : List PathInfo) → phase_of cut.events d ≡ Ended
      → IsVerdictAfter (GivesBuilt may cut outcomes) run entries d (Ok infos)
      → IsVerdictAfter (GivesEach may outcomes) run entries d (Ok infos)
  passes d entries infos ends ending = record {
    job = ending.job;
    is_job = ending.is_job;
    ends_as = (
      ending.ends_as.0,
      (
        ending.ends_as.1.0,
        ending.ends_as.1.1
            (subst (λ n. phase_of cut.events n ≡ Ended) (sym ending.is_job.derivation) ends),
      ),
      ending.ends_as.2,
    );
  }

  both : IsJoined (GivesBuilt may cut outcomes) (GivesEach may outcomes) run cut cut_built again
  both = joined (GivesBuilt may cut outcomes) (GivesEach may outcomes) run cut cut_built passes
      again taken.end.legal given taken.opening

  abbrev whole : History
  whole = over cut.opening again.entries both.events

  whole_end : IsEndedRun (GivesEach may outcomes) run whole
  whole_end = record {
    plan = taken.is_cut.plan;
    legal = both.legal;
    settled = whole_settled (GivesBuilt may cut outcomes) (GivesEach may outcomes) run cut cut_built
        again taken.end.legal taken.opening both taken.end.settled;
    answered = both.answered;
    memory = whole_memory (GivesBuilt may cut outcomes) (GivesEach may outcomes) run cut cut_built
        again taken.end.legal taken.opening both taken.end.memory;
  }

  is_whole : IsWholeRun (GivesEach may outcomes) run whole
  is_whole = whole_by may run whole outcomes whole_end

  -- ---- beside one thread

  module _ (other : History)
      (one : IsOneThread (GivesEach may outcomes) run cut.opening other) where
    alike : AreAlike run whole other
    alike = any_schedule (GivesEach may outcomes) run whole other is_whole one

    opening_is : other.opening ≡ cut.opening
    opening_is = (turned_is (GivesEach may outcomes) run taken.is_cut.plan cut.opening
        (length run.graph.nodes) other one).opening_is

    first_wanted : (d : ℕ) → IsWanted run other.opening d → IsWanted run cut.opening d
    first_wanted d wanted = subst (λ (opens : List Entry). IsWanted run opens d) opening_is wanted

    after_wanted : (d : ℕ) → IsWanted run again.opening d → IsWanted run cut.entries d
    after_wanted d wanted =
        subst (λ (opens : List Entry). IsWanted run opens d) taken.opening wanted

    bad_there : (d : ℕ) (state : State) → is_bad state ≡ true → IsWantedAs run again d state
        → IsWantedAs run other d state
    bad_there d state bad (wanted, is) =
        let ending = after_wanted d wanted in
        let same = seen_wanted (GivesBuilt may cut outcomes) (GivesEach may outcomes) run cut
        cut_built again taken.end.legal taken.opening both d ending in (
          subst (λ (opens : List Entry). IsWanted run opens d) (sym opening_is)
              (was_wanted may run cut taken.is_cut d ending),
          sym (alike.states d)
              ∙ bad_same (state_in run whole d) (state_in run again d) (sym same)
              (ap is_bad is ∙ bad)
              ∙ is,
        )

    bad_back : (d : ℕ) (state : State) → is_bad state ≡ true → IsWantedAs run other d state
        → IsWantedAs run again d state
    bad_back d state bad (wanted, is) =
        let there : state_in run whole d ≡ state = alike.states d ∙ is in
        ⊎_elim
        (λ ending. (
          subst (λ (opens : List Entry). IsWanted run opens d) (sym taken.opening) ending,
          bad_same (state_in run again d) (state_in run whole d)
              (seen_wanted (GivesBuilt may cut outcomes) (GivesEach may outcomes) run cut cut_built
              again taken.end.legal taken.opening both d ending)
              (ap is_bad there ∙ bad)
              ∙ there,
        ))
        (λ spared. absurd
        (good_or_bad (state_in run whole d)
        (spared_good (GivesBuilt may cut outcomes) (GivesEach may outcomes) run cut cut_built again
        taken.end.legal taken.opening both d spared)
        (ap is_bad there ∙ bad)))
        (still_wanted (GivesBuilt may cut outcomes) (GivesEach may outcomes) run cut cut_built again
        taken.end.legal taken.opening both d (first_wanted d wanted))

    bad_same_both : (d : ℕ) (state : State) → is_bad state ≡ true
        → IsWantedAs run again d state ↔ IsWantedAs run other d state
    bad_same_both d state bad = (bad_there d state bad, bad_back d state bad)

    roots_same : (d : ℕ) → Contains run.graph.roots d
        → is_good (state_in run again d) ≡ is_good (state_in run other d)
    roots_same d root =
        same_good (state_in run again d) (state_in run whole d)
        (seen_wanted (GivesBuilt may cut outcomes) (GivesEach may outcomes) run cut cut_built again
        taken.end.legal taken.opening both d (wanted_root d root))
        ∙ ap is_good (alike.states d)

    built_or_reused : (d : ℕ) → state_in run other d ≡ Done
        → (state_in run again d ≡ Done) ⊎ (state_in run again d ≡ Reused)
    built_or_reused d is =
        ⊎_elim
        (λ ends. inr
        (built_reused (GivesBuilt may cut outcomes) (GivesEach may outcomes) run cut cut_built again
        taken.end.legal taken.opening both d ends))
        (λ fresh. inl (by (phase_of again.events d) refl (both.same d fresh)))
        (ended_or_not (phase_of cut.events d))
      where
        there : phase_of both.events d ≡ Ended
        there = done_is_ended (rows_in run whole) d (ap is_done (alike.states d ∙ is))

        by : (p : Phase) → phase_of again.events d ≡ p
            → IsSamePhase (phase_of again.events d) (phase_of both.events d)
            → state_in run again d ≡ Done
        by Ended at same = state_by run again taken.is_cut.plan d Ended at
        by Idle at same =
            let idle : phase_of both.events d ≡ Idle =
            subst (λ p. IsSamePhase p (phase_of both.events d)) at same in
            let clash : Ended ≡ Idle = sym there ∙ idle in
            absurd cc
        by (Begun lease) at same =
            let starts = subst (λ p. IsSamePhase p (phase_of both.events d)) at same in
            let clash : Ended ≡ Begun starts.0 = sym there ∙ starts.1 in
            absurd cc
        by (Broken reason) at same =
            let breaks : phase_of both.events d ≡ Broken reason =
            subst (λ p. IsSamePhase p (phase_of both.events d)) at same in
            let clash : Ended ≡ Broken reason = sym there ∙ breaks in
            absurd cc

    came_to_same : EndedAlike run again other
    came_to_same = record {
      records = alike.records;
      bad = bad_same_both;
      lines = λ a b one two. bad_lines_same run.graph.nodes one.named two.named
          (state_in run again) (state_in run other) (IsWanted run again.opening)
          (IsWanted run other.opening) one.wanted two.wanted one.by_path two.by_path bad_same_both
          (λ d is was same. one_in_both run again other alike.records d same (one.named d)
          (two.named d) (one.are_named d is) (two.are_named d was));
      roots = roots_same;
      outputs = lines_alike (outputs_at run.graph.nodes (state_in run again))
          (outputs_at run.graph.nodes (state_in run other)) run.graph.roots
          (λ d root. outputs_same d (roots_same d root));
      built = λ d is wanted. built_or_reused d is.1;
    }
      where
        outputs_same : (d : ℕ) → is_good (state_in run again d) ≡ is_good (state_in run other d)
            → outputs_at run.graph.nodes (state_in run again) d
            ≡ outputs_at run.graph.nodes (state_in run other) d
        outputs_same d same = rw same refl

pub any_interruption : (may : Job → Result Answer Reason → Type 0) → AnyInterruption may
any_interruption may run cut again taken = (
  outcomes may run cut again taken,
  record {
    built = built may run cut again taken;
    given = given may run cut again taken;
    thread = has_one_thread (GivesEach may (outcomes may run cut again taken)) run
        (whole may run cut again taken) (is_whole may run cut again taken);
    same = λ other one. came_to_same may run cut again taken other one;
  },
)

-- ---- two cuts

pub cuts_are_one : (may : Job → Result Answer Reason → Type 0) → CutsAreOne may
cuts_are_one may run first next is_first is_next opening =
    let both = joined may may run first is_first (λ d entries infos ends ending. ending) next
    is_next.legal is_next.answered opening in (
      over first.opening next.entries both.events,
      record {
        is_cut = record {
          plan = is_first.plan;
          twins = is_first.twins;
          sources = is_first.sources;
          legal = both.legal;
          answered = both.answered;
        };
        opening = refl;
        entries = refl;
      },
    )
