-- To each whole run there is one thread over the same opening.
use Rattle.std.proofs.Common.{◌≡◌, ◌↔◌, ◌∙◌, ◌<◌, ℕ, zero, suc, List, Result, Ok, Err, Some, refl, sym, subst, ⊎_elim, arith, rules}
use Rattle.std.specs.Prelude.{Contains, slice_get}
use Rattle.drv_graph.specs.Nodes.{Node}
use Rattle.drv_graph.specs.PlanNodes.{output_paths_of}
use Rattle.valid_table.specs.Closure.{Reaches}
use Rattle.valid_table.specs.Entries.{registered}
use Rattle.valid_table.specs.PathInfos.{PathInfo}
use Rattle.valid_table.specs.Valid.{IsOnce, IsValid}
use Rattle.valid_table.specs.declared.entry.Entry.{Entry}
use Rattle.valid_table.specs.declared.entry.Registration.{Registration}
use Rattle.sched_core.specs.Books.{ArePermittedPaths}
use Rattle.run_states.specs.StateTables.{CanBegin}
use Rattle.run_states.specs.Runs.{opened}
use Rattle.build_outcome.specs.Jobs.{seeds_of}
use Rattle.run_states.specs.Legal.{MayRefer, begins, begun, ended, failed}
use Rattle.run_states.specs.Runs.{History, IsWanted, Run}
use Rattle.run_states.specs.States.{Phase, Idle, Begun, Ended, Broken, phase_of}
use Rattle.build_outcome.specs.Checks.{ReachAlike}
use Rattle.build_outcome.specs.Verdicts.{outputs_of}
use Rattle.build_outcome.specs.declared.job.Answer.{Answer}
use Rattle.build_outcome.specs.declared.job.Job.{Job}
use Rattle.run_states.specs.declared.state.Event.TheVariants.{Begin, Done as Finish, Fail}
use Rattle.build_outcome.specs.declared.reason.Reason.{Reason}
use Rattle.build_outcome.specs.declared.reason.Reason.TheVariants.{OutOfMemory}
use Rattle.build_outcome.proofs.TestedVerdicts.{tested_verdict_stays}
use Rattle.store_run.specs.Builders.{IsOutcomeVerdict, IsVerdictAfter}
use Rattle.store_run.specs.OneThread.{HadTurns, turn_done, turn_failed, turn_opening, turn_skipped}
use Rattle.store_run.specs.Scheduling.{HasOneThread, IsWholeRun}
use Rattle.store_run.proofs.Alike.{HasSameTurn, IsAccounted, IsAlikeAt, alike_below, none_building, not_idle, seed_carried, swapped, unhindered_there}
use Rattle.store_run.proofs.Carried.{IsCarried, may_refer_there, reach_both, record_both, referred_valid}
use Rattle.store_run.proofs.KnownRecords.{record_after}
use Rattle.store_run.proofs.OneOutcome.{job_outputs, job_seeds, permitted_job, permitted_whole, reach_whole}
use Rattle.store_run.proofs.Schedules.{opening_journal, run_accounted, run_told, turns_accounted}
use Rattle.store_run.proofs.Telling.{CameTo, phase_broken, phase_ended}
use Rattle.store_run.proofs.Turns.{HaveTurned, turned_is}
use Rattle.run_states.proofs.Dones.{reached_is_valid}
use Rattle.run_states.proofs.Unhindered.{ready_unhindered}
use Rattle.store_run.proofs.Unhindered.{IsUnhindered, unhindered_ready}
use Rattle.run_states.proofs.OtherEvents.{phase_other, same_or_other}

-- ---- as a derivation ended here, it may end there

module _ (may : Job → Result Answer Reason → Type 0) (run : Run) (history other : History)
    (once : IsOnce (registered history.entries)) (d : ℕ)
    (verdict : Result (List PathInfo) Reason) (came : CameTo may run history d verdict)
    (node : Node) (at : slice_get run.graph.nodes d ≡ Some node)
    (there : (seed : List ℕ) → Contains (seeds_of run.graph.nodes node.drv) seed
    → IsCarried (registered history.entries) (registered other.entries) seed)
    (back : (seed : List ℕ) → Contains (seeds_of run.graph.nodes node.drv) seed
    → IsCarried (registered other.entries) (registered history.entries) seed) where
  permitted_there : (permitted : List (List ℕ))
      → ArePermittedPaths came.before came.ending.job permitted
      → ArePermittedPaths other.entries came.ending.job permitted
  permitted_there permitted of =
      let job = came.ending.job in
      let seeds = seeds_of run.graph.nodes node.drv in
      let outputs = output_paths_of node.drv in
      let are = permitted_job _ d _ _ came.before _ came.ending.is_job at of in
      let whole = permitted_whole may run history once d node at verdict came in
      record {
        rising = of.rising;
        each = λ path.
            subst (λ (ss : List (List ℕ)). Contains permitted path
            ↔ MayRefer (registered other.entries) ss (outputs_of job) path)
            (sym (job_seeds _ d _ _ came.ending.is_job at))
            (subst (λ (os : List (List ℕ)). Contains permitted path
            ↔ MayRefer (registered other.entries) seeds os path)
            (sym (job_outputs _ d _ _ came.ending.is_job at)) (
              λ has. may_refer_there _ _ _
                  _ there _ ((whole path).0 ((are.each path).0 has)),
              λ can. (are.each path).1 ((whole path).1
                  (may_refer_there _ _ _
                  _ back _ can)),
            ));
      }

  reach_there : (permitted : List (List ℕ))
      → ArePermittedPaths came.before came.ending.job permitted
      → ReachAlike (registered came.before) (registered other.entries) came.ending.job permitted
  reach_there permitted of = record {
    reach = λ from to has foreign.
        let here = reach_whole may run history once d node at verdict came from to
        (was_valid from has foreign) in
        let both = reach_both all (registered other.entries) seeds outputs there back from to
        (whole from has) (apart from foreign) in
        (λ reaches. both.0 (here.0 reaches), λ reaches. here.1 (both.1 reaches));
    records = λ from to has foreign reaches.
        let here = reach_whole may run history once d node at verdict came from to
        (was_valid from has foreign) in
        record_after came.before history.entries to (came.more, sym came.parts)
        (reached_is_valid (registered came.before) from to reaches.0 reaches.1)
        ∙ record_both all (registered other.entries) seeds outputs once there back from to
        (whole from has) (apart from foreign) (here.0 reaches);
  }
    where
      seeds : List (List ℕ)
      seeds = seeds_of run.graph.nodes node.drv

      outputs : List (List ℕ)
      outputs = output_paths_of node.drv

      all : List Registration
      all = registered history.entries

      apart : (from : List ℕ) → (Contains (outputs_of came.ending.job) from → ⊥)
          → Contains outputs from → ⊥
      apart from foreign own =
          foreign (subst (λ (paths : List (List ℕ)). Contains paths from)
          (sym (job_outputs run.graph d came.ending.job node came.ending.is_job at)) own)

      first : (from : List ℕ) → Contains permitted from
          → MayRefer (registered came.before) seeds outputs from
      first from has =
          ((permitted_job run.graph d came.ending.job node came.before permitted came.ending.is_job
          at of).each from).0 has

      whole : (from : List ℕ) → Contains permitted from → MayRefer all seeds outputs from
      whole from has =
          (permitted_whole may run history once d node at verdict came from).0 (first from has)

      was_valid : (from : List ℕ) → Contains permitted from
          → (Contains (outputs_of came.ending.job) from → ⊥) → IsValid (registered came.before) from
      was_valid from has foreign =
          referred_valid (registered came.before) seeds outputs from (first from has)
          (apart from foreign)

  after_there : IsVerdictAfter may run other.entries d verdict
  after_there = record {
    job = came.ending.job;
    is_job = came.ending.is_job;
    ends_as = (
      came.ending.ends_as.0,
      came.ending.ends_as.1,
      by came.ending.ends_as.0 came.ending.ends_as.2,
    );
  }
    where
      by : (outcome : Result Answer Reason)
          → IsOutcomeVerdict came.before came.ending.job outcome verdict
          → IsOutcomeVerdict other.entries came.ending.job outcome verdict
      by (Ok answer) is = (
        is.0,
        permitted_there _ is.1,
        tested_verdict_stays (registered came.before) (registered other.entries) came.ending.job
            is.0 answer verdict (reach_there is.0 is.1) is.2,
      )
      by (Err reason) is = is

-- ---- one turn after another

-- The derivations below a number had their turns, and have events exactly if they have some here.
record IsThread (may : Job → Result Answer Reason → Type 0) (run : Run) (history : History)
    (count : ℕ) : Type 0 where
  other : History
  had : HadTurns may run history.opening count other
  turns : (d : ℕ) → d < count → HasSameTurn history other d

-- one derivation more had its turn
turns_more : (history other after : History) (count : ℕ)
    → ((i : ℕ) → (count ≡ i → ⊥) → phase_of after.events i ≡ phase_of other.events i)
    → ((d : ℕ) → d < count → HasSameTurn history other d) → HasSameTurn history after count
    → (d : ℕ) → d < suc count → HasSameTurn history after d
turns_more history other after count phases turns last d low =
    ⊎_elim (λ same. subst (HasSameTurn history after) same last)
    (λ apart.
    let turn = turns d (omega (arith, low, apart)) in
    record {
      over = turn.over;
      over_there = λ lease is. turn.over_there lease (sym (phases d apart) ∙ is);
      idle = λ is. turn.idle (sym (phases d apart) ∙ is);
      idle_there = λ is. phases d apart ∙ turn.idle_there is;
    }) (same_or_other _ d)

module _ (may : Job → Result Answer Reason → Type 0) (run : Run) (history : History)
    (whole : IsWholeRun may run history) (d : ℕ) (thread : IsThread may run history d) where
  told : IsAccounted may run history
  told = run_accounted may _ _ whole

  told_there : IsAccounted may run thread.other
  told_there = search (rules, turns_accounted)

  turned : HaveTurned may run history.opening d thread.other
  turned = search (rules, turned_is)

  below : (i : ℕ) → i < d → IsAlikeAt run history thread.other i
  below i less = alike_below may _ whole.end.plan whole.outcome _ _ told
      told_there
      turned.opening_is d (λ e low rest. thread.turns e low) d i less less

  above : (i : ℕ) → i < d → IsAlikeAt run thread.other history i
  above i less = swapped _ _ _ i (below i less)

  unhindered : (phase_of history.events d ≡ Idle → ⊥) → IsUnhindered run thread.other d
  unhindered moved = unhindered_there may _ whole.end.plan _ _ told told_there
      turned.opening_is d below (told.begun d moved).unhindered

  can_begin : (phase_of history.events d ≡ Idle → ⊥) → CanBegin run thread.other d
  can_begin moved = record {
    within = (told.begun d moved).within;
    wanted = subst (λ (opens : List Entry). IsWanted run opens d) (sym turned.opening_is)
        (told.begun d moved).wanted;
    ready = unhindered_ready _ thread.other whole.end.plan d (unhindered moved)
        (turned.rest d (omega arith));
  }

  ending : (phase_of history.events d ≡ Idle → ⊥) → (verdict : Result (List PathInfo) Reason)
      → CameTo may run history d verdict → IsVerdictAfter may run thread.other.entries d verdict
  ending moved verdict came =
      let node = came.ending.is_job.node in
      let at = came.ending.is_job.is_node in
      after_there may run history thread.other told.once d verdict came node at
      (seed_carried may run whole.end.plan history _ told told_there turned.opening_is d
      below _ at (told.begun d moved).unhindered)
      (seed_carried may run whole.end.plan thread.other history told_there told
      (sym turned.opening_is) d above node at (unhindered moved))

  thread_more : IsThread may run history (suc d)
  thread_more = by (phase_of history.events d) refl
    where
      by : (p : Phase) → phase_of history.events d ≡ p → IsThread may run history (suc d)
      by Idle is = record {
        other = thread.other;
        had = turn_skipped d thread.other thread.had (λ can.
            not_idle may run whole.end.plan history thread.other told told_there whole.end.settled
            turned.opening_is d above is can.within can.wanted
            (ready_unhindered run thread.other whole.end.plan d can.ready));
        turns = turns_more history thread.other thread.other d (λ i apart. refl) thread.turns
            (record {
              over = λ lease starts. let clash : Idle ≡ Begun lease = sym is ∙ starts in cc;
              over_there = λ lease starts.
                  let clash : Idle ≡ Begun lease = sym (turned.rest d (omega arith)) ∙ starts in cc;
              idle = λ rests. is;
              idle_there = λ rests. turned.rest d (omega arith);
            });
      }
      by (Begun lease) is = search (rules, none_building, told, told_there)
      by Ended is =
          let moved : phase_of history.events d ≡ Idle → ⊥ =
          λ idle. let clash : Ended ≡ Idle = sym is ∙ idle in cc in
          let made = told.made d is in
          let lease = begins thread.other.events in
          let middle = begun thread.other d in
          let after = ended middle d lease made.entry in
          let phase = phase_ended middle.events d lease in
          record {
            other = after;
            had = turn_done d thread.other made.node made.infos made.entry thread.had
                (can_begin moved) made.is_node (ending moved (Ok made.infos) made.came)
                made.is_entry;
            turns = turns_more history thread.other after d
                (λ i apart. phase_other middle.events (Finish d lease) i apart
                ∙ phase_other thread.other.events (Begin d lease) i apart) thread.turns
                (record {
                  over = λ n starts. let clash : Ended ≡ Begun n = sym is ∙ starts in cc;
                  over_there = λ n starts. let clash : Ended ≡ Begun n = sym phase ∙ starts in cc;
                  idle = λ rests. let clash : Ended ≡ Idle = sym phase ∙ rests in absurd cc;
                  idle_there = λ rests. absurd (moved rests);
                });
          }
      by (Broken why) is =
          let moved : phase_of history.events d ≡ Idle → ⊥ =
          λ idle. let clash : Broken why ≡ Idle = sym is ∙ idle in cc in
          let came = told.broke d why is in
          let lease = begins thread.other.events in
          let middle = begun thread.other d in
          let after = failed middle d lease why in
          let phase = phase_broken middle.events d lease why in
          record {
            other = after;
            had = turn_failed d thread.other why thread.had (can_begin moved)
                (ending moved (Err why) came);
            turns = turns_more history thread.other after d
                (λ i apart. phase_other middle.events (Fail d lease why) i apart
                ∙ phase_other thread.other.events (Begin d lease) i apart) thread.turns
                (record {
                  over = λ n starts. let clash : Broken why ≡ Begun n = sym is ∙ starts in cc;
                  over_there = λ n starts.
                      let clash : Broken why ≡ Begun n = sym phase ∙ starts in cc;
                  idle = λ rests. let clash : Broken why ≡ Idle = sym phase ∙ rests in absurd cc;
                  idle_there = λ rests. absurd (moved rests);
                });
          }

thread_of : (may : Job → Result Answer Reason → Type 0) (run : Run) (history : History)
    → IsWholeRun may run history → (count : ℕ) → IsThread may run history count
thread_of may run history whole zero = record {
  other = opened history.opening;
  had = turn_opening (opening_journal (λ reason. reason ≡ OutOfMemory) may run history
      (run_told may run history whole));
  turns = λ d low. absurd (omega arith);
}
thread_of may run history whole (suc count) =
    thread_more may run history whole count (thread_of may run history whole count)

pub has_one_thread : (may : Job → Result Answer Reason → Type 0) → HasOneThread may
has_one_thread may run history whole =
    let thread = thread_of may _ _ whole _ in
    (thread.other, thread.had)
