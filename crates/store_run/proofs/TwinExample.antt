-- A derivation that is built after its twin failed, beside a third, is part of a whole run.
use Rattle.std.proofs.Common.{◌≡◌, ◌∙◌, ◌<◌, inl, inr, ℕ, zero, suc, true, false, List, [], ◌∷◌, Some, Ok, Err, refl, sym, ap, ap₂, subst, arith, rules}
use Rattle.std.specs.Prelude.{Contains, pos, slice_get}
use Rattle.std.proofs.lemmas.Bool.{and_from}
use Rattle.nix_names.specs.declared.digest.Digest.{Digest}
use Rattle.nix_names.specs.declared.method.Method.{Method}
use Rattle.nix_names.specs.declared.method.MethodDigest.{MethodDigest}
use Rattle.nix_names.proofs.Lists.{Contains-first, Contains-later, Contains-nothing}
use Rattle.drv_graph.specs.Nodes.{Node}
use Rattle.drv_graph.specs.PlanNodes.{output_paths_of}
use Rattle.drv_graph.specs.Twins.{are_twins_at}
use Rattle.drv_graph.specs.declared.kinds.Kind.TheVariants.{Fixed}
use Rattle.drv_graph.proofs.FirstTwins.{twins_are_told}
use Rattle.drv_graph.proofs.KindAnswers.{one_kind}
use Rattle.valid_table.specs.Entries.{registered}
use Rattle.valid_table.specs.PathInfos.{PathInfo}
use Rattle.valid_table.specs.declared.entry.Entry.{Entry}
use Rattle.run_states.specs.StateTables.{CanBegin, IsRunSettled}
use Rattle.run_states.specs.Runs.{opened}
use Rattle.run_states.specs.Legal.{AreNewOutputs, IsAllowed, IsEntryOf, IsLegal, begun, ended, failed, legal_begin, legal_done, legal_fail, legal_opening}
use Rattle.run_states.specs.Runs.{History, IsWanted, earlier_twins, state_in, wanted_root}
use Rattle.run_states.specs.States.{Begun, Broken, Ended, is_bad, is_done, is_open, phase_of}
use Rattle.run_states.specs.declared.state.Event.{Event}
use Rattle.run_states.specs.declared.state.Event.TheVariants.{Begin, Done as Finish, Fail}
use Rattle.build_outcome.specs.declared.reason.Reason.{Reason}
use Rattle.build_outcome.specs.declared.reason.Reason.TheVariants.{ExitStatus}
use Rattle.run_states.specs.declared.state.State.TheVariants.{Blocked, Building, Done, Failed, Ready}
use Rattle.run_states.proofs.EarlierTwins.{twins_from}
use Rattle.run_states.proofs.TwinLaws.{is_earlier_twin, twins_path}
use Rattle.run_states.proofs.Wanting.{wanted_told}
use Rattle.store_run.specs.Builders.{IsAnswered, IsVerdictAfter, answered_begin, answered_done, answered_fail, answered_opening}
use Rattle.store_run.specs.OneThread.{IsOneThread, turn_done, turn_failed, turn_opening}
use Rattle.store_run.specs.Scheduling.{HasMemory, IsWholeRun}
use Rattle.store_run.specs.ScheduleExample.{Overlap, made, making, out_alone, right}
use Rattle.store_run.specs.TwinExample.{first_twin, freed, made_file, making_twin, may_leave_file, one_by_one, second_twin, three, tried_again, waiting}
use Rattle.store_run.proofs.AlonePlans.{one_of}
use Rattle.store_run.proofs.ExampleJobs.{is_job_of_right, job_of_right, left_answer, left_leaves, left_verdict, nothing_in, right_answer, right_leaves, right_verdict}
use Rattle.store_run.proofs.SameTests.{plain_tested}
use Rattle.store_run.proofs.ScheduleExample.{closed_done, closed_failed, journal, none_valid, one_allowed, one_entry, permitted_own, right_allowed, right_entry}
use Rattle.store_run.proofs.TwinJobs.{file_in, first_is_job, first_job, first_may, second_answer, second_is_job, second_job, second_leaves, second_may, second_verdict, third_may, three_outcome}
use Rattle.store_run.proofs.TwinPlans.{are_twins, empty_kind, kind_empty, outs_differ, three_sound}
use Rattle.store_run.proofs.Unhindered.{IsUnhindered, blocked_by_twin, state_by, unhindered_ready}

abbrev ends : Reason
ends = ExitStatus (pos 1)

-- ---- verdicts after some entries

first_after : (entries : List Entry) → IsVerdictAfter may_leave_file three entries 0 (Err ends)
first_after entries = record {
  job = first_job;
  is_job = first_is_job;
  ends_as = (
    Ok left_answer,
    first_may,
    (
      output_paths_of first_twin.drv,
      permitted_own _ entries 0 _ _ first_is_job refl refl _ refl,
      inl (left_verdict first_job (output_paths_of first_twin.drv) left_answer left_leaves),
    ),
  );
}

second_after : (entries : List Entry)
    → IsVerdictAfter may_leave_file three entries 1 (Ok (file_in ∷ []))
second_after entries = record {
  job = second_job;
  is_job = second_is_job;
  ends_as = (
    Ok second_answer,
    second_may,
    (
      output_paths_of second_twin.drv,
      permitted_own _ entries 1 _ _ second_is_job refl refl _ refl,
      plain_tested (registered entries) second_job (output_paths_of second_twin.drv) second_answer
          (Ok (file_in ∷ [])) second_is_job.profile
          (second_verdict _ second_is_job _ second_leaves),
    ),
  );
}

third_after : (entries : List Entry)
    → IsVerdictAfter may_leave_file three entries 2 (Ok (nothing_in ∷ []))
third_after entries = record {
  job = job_of_right 2;
  is_job = is_job_of_right _ 2 refl refl;
  ends_as = (
    Ok right_answer,
    third_may,
    (
      output_paths_of right.drv,
      permitted_own _ entries 2 _ right
          (is_job_of_right three.graph 2 refl refl) refl refl _ refl,
      plain_tested (registered entries) (job_of_right 2) (output_paths_of right.drv) right_answer
          (Ok (nothing_in ∷ [])) (is_job_of_right three.graph 2 refl refl).profile
          (right_verdict three.graph 2 refl _ (is_job_of_right three.graph 2 refl refl) refl
          _ right_leaves _),
    ),
  );
}

-- ---- what is registered

abbrev pub digest_by_method : Method → Digest → MethodDigest
digest_by_method method digest = record { method = method; digest = digest }

pub same_digest : (method other : Method) (a b : Digest) → Fixed method a ≡ Fixed other b
    → digest_by_method method a ≡ digest_by_method other b
same_digest method other a b same =
    let methods : method ≡ other = cc in
    let digests : a ≡ b = cc in
    ap₂ (λ (m : Method) (d : Digest). digest_by_method m d) methods digests

second_allowed : IsAllowed three.graph [] second_twin (file_in ∷ [])
second_allowed =
    one_allowed _ refl _ [] second_twin (record {
      count = refl;
      fixed = λ method digest kind info has.
          let kinds : Fixed method digest ≡ empty_kind =
          one_kind second_twin.drv _ _ kind
          (kind_empty making_twin) in
          sym (ap (λ (i : PathInfo). i.digest) (one_of _ _ has))
          ∙ ap Some (sym (same_digest _ _ _ _ kinds));
    }) (none_valid second_twin)

second_entry : IsEntryOf second_twin (file_in ∷ []) made_file
second_entry = search (rules, one_entry, file_in)

new_third : AreNewOutputs (made_file ∷ []) right.drv
new_third path own valid = search (rules, outs_differ, one_of)

-- ---- the twins

wanted : (d : ℕ) → d < 3 → IsWanted three [] d
wanted zero low = wanted_root 0 (Contains-first 0 (1 ∷ 2 ∷ []))
wanted (suc zero) low =
    wanted_root 1 (Contains-later 0 (1 ∷ 2 ∷ []) 1 (Contains-first 1 (2 ∷ [])))
wanted (suc (suc zero)) low =
    wanted_root 2 (Contains-later 0 (1 ∷ 2 ∷ []) 2 (Contains-later 1 (2 ∷ []) 2
    (Contains-first 2 [])))
wanted (suc (suc (suc d))) low = absurd (omega arith)

-- the first is the one earlier twin of the second
twin_is_first : (t : ℕ) → Contains (earlier_twins three [] 1) t → t ≡ 0
twin_is_first t has = let low = (is_earlier_twin _ [] 1 t has).earlier in omega arith

first_is_twin : Contains (earlier_twins three [] 1) 0
first_is_twin =
    search (
      rules,
      twins_from,
      and_from,
      wanted_told,
      three_sound,
      wanted,
      twins_are_told,
      are_twins,
    )

-- the first and the third have none
first_no_twin : (t : ℕ) → Contains (earlier_twins three [] 0) t → ⊥
first_no_twin t has = let low = (is_earlier_twin _ [] 0 t has).earlier in omega arith

-- a twin of the third would share its output
not_twins : (node : Node) (path : List ℕ) → output_paths_of node.drv ≡ path ∷ []
    → (path ≡ out_alone making → ⊥) → are_twins_at (Some node) (Some right) ≡ true → ⊥
not_twins node path one differs twins = search (rules, one_of, twins_path, Contains-first)

third_no_twin : (t : ℕ) → Contains (earlier_twins three [] 2) t → ⊥
third_no_twin t has = let is = is_earlier_twin _ [] 2 t has in by t is.earlier is.twins
  where
    by : (t : ℕ) → t < 2 → are_twins_at (slice_get three.graph.nodes t) (Some right) ≡ true → ⊥
    by zero low twins = search (rules, not_twins, outs_differ)
    by (suc zero) low twins = search (rules, not_twins, outs_differ)
    by (suc (suc t)) low twins = absurd (omega arith)

-- ---- states

-- a history that opens with no entries
abbrev run_through : List Entry → List Event → History
run_through entries events = record { opening = []; entries = entries; events = events }

-- the second has nothing in its way once the first has failed
second_unhindered : (entries : List Entry) (events : List Event)
    → is_bad (state_in three (run_through entries events) 0) ≡ true
    → IsUnhindered three (run_through entries events) 1
second_unhindered entries events bad = record {
  free = refl;
  spent = λ t has. subst (λ n. is_bad (state_in three (run_through entries events) n) ≡ true)
      (sym (twin_is_first t has)) bad;
  good = λ i none. absurd (Contains-nothing i none);
}

-- the first and the third never have
first_unhindered : (entries : List Entry) (events : List Event)
    → IsUnhindered three (run_through entries events) 0
first_unhindered entries events = record {
  free = refl;
  spent = λ t has. absurd (first_no_twin t has);
  good = λ i none. absurd (Contains-nothing i none);
}

third_unhindered : (entries : List Entry) (events : List Event)
    → IsUnhindered three (run_through entries events) 2
third_unhindered entries events = record {
  free = refl;
  spent = λ t has. absurd (third_no_twin t has);
  good = λ i none. absurd (Contains-nothing i none);
}

failed_by : (entries : List Entry) (events : List Event)
    → phase_of events 0 ≡ Broken ends → is_bad (state_in three (run_through entries events) 0)
    ≡ true
failed_by entries events is = ap is_bad (state_by _ (run_through entries events) three_sound 0 _ is)

first_ready : state_in three (opened []) 0 ≡ Ready
first_ready = unhindered_ready three (opened []) three_sound 0 (first_unhindered [] []) refl

pub second_waits : state_in three waiting 1 ≡ Blocked
second_waits =
    blocked_by_twin three waiting three_sound 1 0 refl refl first_is_twin (ap is_open first_builds)
    (λ t has. subst (λ n. is_done (state_in three waiting n) ≡ false) (sym (twin_is_first t has))
    (ap is_done first_builds))
  where
    first_builds : state_in three waiting 0 ≡ Building 0
    first_builds = state_by three waiting three_sound 0 (Begun 0) refl

pub second_freed : state_in three freed 1 ≡ Ready
second_freed = search (rules, unhindered_ready, three_sound, second_unhindered, failed_by)

pub first_failed : state_in three tried_again 0 ≡ Failed ends
first_failed = state_by _ tried_again three_sound 0 (Broken ends) refl

pub second_built : state_in three tried_again 1 ≡ Done
second_built = state_by _ tried_again three_sound 1 Ended refl

pub third_built : state_in three tried_again 2 ≡ Done
third_built = state_by _ tried_again three_sound 2 Ended refl

-- ---- two workers

third_can : state_in three (begun (opened []) 0) 2 ≡ Ready
third_can = search (rules, unhindered_ready, three_sound, third_unhindered)

legal_waiting : IsLegal three waiting
legal_waiting =
    legal_begin (begun (opened []) 0) 2
    (legal_begin (opened []) 0 (legal_opening [] journal) (omega arith) (wanted 0 (omega arith))
    first_ready) (omega arith) (wanted 2 (omega arith)) third_can

legal_begun : IsLegal three (begun freed 1)
legal_begun =
    legal_begin freed 1 (legal_fail waiting 0 0 ends legal_waiting refl) (omega arith)
    (wanted 1 (omega arith)) second_freed

legal : IsLegal three tried_again
legal =
    legal_done (ended (begun freed 1) 1 2 made_file) 2 1 right (nothing_in ∷ []) made
    (legal_done (begun freed 1) 1 2 second_twin (file_in ∷ []) made_file legal_begun refl refl
    second_allowed second_entry) refl refl
    (right_allowed _ _ new_third) right_entry

answered_freed : IsAnswered may_leave_file three freed
answered_freed =
    answered_fail waiting 0 0 ends
    (answered_begin (begun (opened []) 0) 2
    (answered_begin (opened []) 0 (answered_opening []))) (inr (first_after []))

answered : IsAnswered may_leave_file three tried_again
answered =
    answered_done (ended (begun freed 1) 1 2 made_file) 2 1 right (nothing_in ∷ []) made
    (answered_done (begun freed 1) 1 2 second_twin (file_in ∷ []) made_file
    (answered_begin freed 1 answered_freed) refl (second_after []) second_entry) refl
    (third_after _) right_entry

settled : IsRunSettled three tried_again
settled zero low is = closed_failed _ _ first_failed
settled (suc zero) low is = closed_done _ second_built
settled (suc (suc zero)) low is = closed_done _ third_built
settled (suc (suc (suc d))) low is = absurd (omega arith)

memory : HasMemory three tried_again
memory zero low is failed = search (rules, ends, first_failed)
memory (suc zero) low is failed = search (rules, second_built)
memory (suc (suc zero)) low is failed = search (rules, third_built)
memory (suc (suc (suc d))) low is failed = absurd (omega arith)

pub whole : IsWholeRun may_leave_file three tried_again
whole = search (rules, three_sound, legal, settled, answered, memory, three_outcome)

pub beside_first : Overlap tried_again 0 2
beside_first = record {
  before = Begin 0 0 ∷ Begin 2 1 ∷ [];
  after = Fail 0 0 ends ∷ Begin 1 2 ∷ Finish 1 2 ∷ Finish 2 1 ∷ [];
  parts = refl;
  one = 0;
  other = 1;
  first = refl;
  second = refl;
}

pub beside_second : Overlap tried_again 1 2
beside_second = record {
  before = Begin 0 0 ∷ Begin 2 1 ∷ Fail 0 0 ends ∷ Begin 1 2 ∷ [];
  after = Finish 1 2 ∷ Finish 2 1 ∷ [];
  parts = refl;
  one = 2;
  other = 1;
  first = refl;
  second = refl;
}

-- ---- one thread

-- after the first, and after the second too
abbrev one_tried : History
one_tried = failed (begun (opened []) 0) 0 0 ends

abbrev two_tried : History
two_tried = ended (begun one_tried 1) 1 1 made_file

second_can : CanBegin three one_tried 1
second_can =
    search (rules, wanted, unhindered_ready, one_tried, three_sound, second_unhindered, failed_by)

last_can : CanBegin three two_tried 2
last_can = search (rules, wanted, unhindered_ready, two_tried, three_sound, third_unhindered)

pub thread : IsOneThread may_leave_file three [] one_by_one
thread =
    turn_done 2 two_tried right (nothing_in ∷ []) made
    (turn_done 1 one_tried second_twin (file_in ∷ []) made_file
    (turn_failed 0 (opened []) ends (turn_opening journal)
    (record { within = omega arith; wanted = wanted 0 (omega arith); ready = first_ready })
    (first_after [])) second_can refl (second_after []) second_entry) last_can refl
    (third_after _) right_entry
