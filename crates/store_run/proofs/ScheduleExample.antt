-- Two builds that overlap, of which one fails, are a whole run.
use Rattle.std.proofs.Common.{◌≡◌, ◌∙◌, ◌<◌, inl, inr, ℕ, zero, suc, true, List, [], ◌∷◌, Some, Ok, Err, refl, sym, subst, arith, rules}
use Rattle.std.specs.Prelude.{Contains, pos, slice_get}
use Rattle.std.specs.List.{IsDistinct}
use Rattle.std.proofs.lemmas.List.Elements.{All-nil}
use Rattle.nix_names.proofs.Lists.{Contains-first, Contains-from_map, Contains-later, Contains-nothing}
use Rattle.nix_drv.specs.Derivation.{Output}
use Rattle.drv_graph.specs.Nodes.{Node}
use Rattle.drv_graph.specs.Twins.{are_twins_at}
use Rattle.drv_graph.specs.PlanNodes.{output_paths_of}
use Rattle.drv_graph.specs.Plans.{Graph}
use Rattle.drv_graph.specs.declared.kinds.Kind.TheVariants.{Addressed, Fixed}
use Rattle.drv_graph.proofs.KindAnswers.{one_kind}
use Rattle.valid_table.specs.Entries.{registered}
use Rattle.valid_table.specs.PathInfos.{PathInfo}
use Rattle.valid_table.specs.Valid.{IsJournal}
use Rattle.valid_table.specs.declared.entry.Entry.{Entry}
use Rattle.valid_table.specs.declared.entry.Entry.TheVariants.{Done as Entered}
use Rattle.valid_table.specs.declared.entry.Registration.{Registration}
use Rattle.sched_core.specs.Books.{ArePermittedPaths}
use Rattle.run_states.specs.StateTables.{IsRunSettled}
use Rattle.run_states.specs.Runs.{opened}
use Rattle.run_states.specs.StateTables.{IsOpen}
use Rattle.build_outcome.specs.Jobs.{IsJob, seeds_of}
use Rattle.run_states.specs.Legal.{AreNewOutputs, AreOutputRecords, IsAllowed, IsEntryOf, IsLegal, begun, ended, failed, legal_begin, legal_done, legal_fail, legal_opening}
use Rattle.run_states.specs.Runs.{History, IsWanted, earlier_twins, state_in, wanted_root}
use Rattle.run_states.specs.States.{Broken, Ended}
use Rattle.build_outcome.specs.declared.job.Job.{Job}
use Rattle.run_states.specs.declared.state.Event.TheVariants.{Begin, Done as Finish, Fail}
use Rattle.build_outcome.specs.declared.reason.Reason.{Reason}
use Rattle.build_outcome.specs.declared.reason.Reason.TheVariants.{ExitStatus}
use Rattle.run_states.specs.declared.state.State.{State}
use Rattle.run_states.specs.declared.state.State.TheVariants.{Done, Failed, Ready}
use Rattle.run_states.specs.declared.precondition.Precondition.TheVariants.{Free}
use Rattle.run_states.proofs.TwinLaws.{is_earlier_twin, is_there, turned, twins_path}
use Rattle.store_run.specs.Builders.{IsAnswered, IsVerdictAfter, answered_begin, answered_done, answered_fail, answered_opening}
use Rattle.store_run.specs.OneThread.{IsOneThread, turn_done, turn_failed, turn_opening}
use Rattle.store_run.specs.Scheduling.{HasMemory, IsWholeRun}
use Rattle.store_run.specs.ScheduleExample.{Overlap, both, failing, in_turn, left, made, making, may_leave, out_alone, right, side_by_side}
use Rattle.store_run.proofs.AlonePlans.{both_sound, kind_alone, one_of, outputs_differ}
use Rattle.store_run.proofs.OneOutcome.{job_outputs, job_seeds}
use Rattle.store_run.proofs.ExampleJobs.{both_outcome, is_job_of_right, job_of_right, left_answer, left_is_job, left_job, left_leaves, left_may, left_verdict, no_cycle, nothing_in, right_answer, right_leaves, right_may, right_verdict}
use Rattle.store_run.proofs.SameTests.{plain_tested}
use Rattle.store_run.proofs.Unhindered.{IsUnhindered, inputs_in, precondition_in, state_by, unhindered_ready}

-- ---- verdicts after some entries

-- to a job without seeds just its own outputs are permitted
pub permitted_own : (graph : Graph) (entries : List Entry) (d : ℕ) (job : Job) (node : Node)
    → IsJob graph d job → slice_get graph.nodes d ≡ Some node
    → seeds_of graph.nodes node.drv ≡ []
    → (path : List ℕ) → output_paths_of node.drv ≡ path ∷ []
    → ArePermittedPaths entries job (path ∷ [])
permitted_own graph entries d job node is at none path one =
    search (rules, job_seeds, job_outputs, Contains-nothing)

left_behind : (entries : List Entry)
    → IsVerdictAfter may_leave both entries 0 (Err (ExitStatus (pos 1)))
left_behind entries = record {
  job = left_job;
  is_job = left_is_job;
  ends_as = (
    Ok left_answer,
    left_may,
    (
      output_paths_of left.drv,
      permitted_own _ entries 0 _ _ left_is_job refl refl _ refl,
      inl (left_verdict left_job (output_paths_of left.drv) left_answer left_leaves),
    ),
  );
}

right_after : (entries : List Entry)
    → IsVerdictAfter may_leave both entries 1 (Ok (nothing_in ∷ []))
right_after entries = record {
  job = job_of_right 1;
  is_job = is_job_of_right _ 1 refl refl;
  ends_as = (
    Ok right_answer,
    right_may,
    (
      output_paths_of right.drv,
      permitted_own _ entries 1 _ _ (is_job_of_right both.graph 1 refl refl)
          refl refl _ refl,
      plain_tested (registered entries) (job_of_right 1) (output_paths_of right.drv) right_answer
          (Ok (nothing_in ∷ [])) (is_job_of_right both.graph 1 refl refl).profile
          (right_verdict both.graph 1 refl _ (is_job_of_right both.graph 1 refl refl) refl
          _ right_leaves _),
    ),
  );
}

-- ---- the steps

pub journal : IsJournal []
unfolding IsDistinct
journal = search (rules, All-nil)

wanted : (opening : List Entry) (d : ℕ) → d < 2 → IsWanted both opening d
wanted opening zero low = wanted_root 0 (Contains-first 0 (1 ∷ []))
wanted opening (suc zero) low =
    wanted_root 1 (Contains-later 0 (1 ∷ []) 1 (Contains-first 1 []))
wanted opening (suc (suc d)) low = absurd (omega arith)

-- a record without references may be registered for the one output of a derivation, where that is
-- new
module _ (info : PathInfo) (none : info.references ≡ []) where
  none_refers : (other : PathInfo) (path : List ℕ) → Contains (info ∷ []) other
      → Contains other.references path → ⊥
  none_refers other path has refers = search (rules, Contains-nothing, one_of)

  pub one_allowed : (graph : Graph) (entries : List Entry) (node : Node)
      → AreOutputRecords node.drv (info ∷ []) → AreNewOutputs entries node.drv
      → IsAllowed graph entries node (info ∷ [])
  one_allowed graph entries node own new = record {
    records = record { own = own; acyclic = no_cycle _ none (output_paths_of node.drv) };
    new = new;
    permitted = λ other path has refers. absurd (none_refers other path has refers);
  }

-- its entry
module _ (node : Node) (own : List ℕ) (info : PathInfo)
    (one : output_paths_of node.drv ≡ own ∷ []) where
  abbrev registration : Registration
  registration = record { path = own; info = info }

  first_path : slice_get (output_paths_of node.drv) 0 ≡ Some own
  first_path = search rules

  there : (path : List ℕ) (other : PathInfo)
      → Contains (registration ∷ []) (record { path = path; info = other })
      → (n : ℕ) × (slice_get (output_paths_of node.drv) n ≡ Some path)
      × (slice_get (info ∷ []) n ≡ Some other)
  there path other (zero, low, is) = search (rules, first_path)
  there path other (suc k, low, is) = absurd (omega arith)

  back : (path : List ℕ) (other : PathInfo)
      → (n : ℕ) × (slice_get (output_paths_of node.drv) n ≡ Some path)
      × (slice_get (info ∷ []) n ≡ Some other)
      → Contains (registration ∷ []) (record { path = path; info = other })
  back path other (zero, at, at') = search (rules, first_path)
  back path other (suc n, at, at') = absurd cc

  pub one_entry : IsEntryOf node (info ∷ []) (Entered node.path (registration ∷ []))
  one_entry = search (rules, registration, there, back)

-- what right made may be registered
pub right_allowed : (graph : Graph) (entries : List Entry) → AreNewOutputs entries right.drv
    → IsAllowed graph entries right (nothing_in ∷ [])
right_allowed graph entries new =
    one_allowed _ refl _ entries right (record {
      count = refl;
      fixed = λ method digest kind info has.
          let clash : Addressed ≡ Fixed method digest = one_kind right.drv _
          _ (kind_alone _) kind in
          absurd cc;
    }) new

pub right_entry : IsEntryOf right (nothing_in ∷ []) made
right_entry = one_entry right (out_alone making) nothing_in refl

pub none_valid : (node : Node) → AreNewOutputs [] node.drv
none_valid node path own valid = Contains-nothing _ valid

-- ---- side by side

-- the two make different outputs, so neither has a twin
no_twin : (opening : List Entry) (d t : ℕ) → Contains (earlier_twins both opening d) t → ⊥
no_twin opening d t has =
    let is = is_earlier_twin _ _ d t has in by d t is.earlier is.twins
  where
    by : (d t : ℕ) → t < d
        → are_twins_at (slice_get both.graph.nodes t) (slice_get both.graph.nodes d) ≡ true → ⊥
    by zero t low twins = absurd (omega arith)
    by (suc zero) (suc t) low twins = absurd (omega arith)
    by (suc zero) zero low twins =
        let path_in : Output → List ℕ = λ o. o.path in
        let own : Contains (output_paths_of left.drv) (out_alone failing) =
        Contains-first _ [] in
        let one = Contains-from_map path_in left.drv.outputs _ own in
        let other = Contains-from_map path_in right.drv.outputs (out_alone failing)
        (twins_path left.drv right.drv (out_alone failing) twins own) in
        outputs_differ (one.0, other.0, one.1, other.1, one.2 ∙ sym other.2)
    by (suc (suc d)) t low twins = search (rules, is_there, turned)

-- so each of them is ready until it begins
unhindered : (history : History) (d : ℕ) → precondition_in both history d ≡ Free
    → inputs_in both d ≡ [] → IsUnhindered both history d
unhindered history d free none = record {
  free = free;
  spent = λ t has. absurd (no_twin _ d t has);
  good = λ i has. absurd (Contains-nothing i (subst (λ l. Contains l i) none has));
}

first_ready : state_in both (opened []) 0 ≡ Ready
first_ready = search (rules, unhindered_ready, both_sound, unhindered)

second_ready : state_in both (begun (opened []) 0) 1 ≡ Ready
second_ready = search (rules, unhindered_ready, both_sound, unhindered)

pub left_failed : state_in both side_by_side 0 ≡ Failed (ExitStatus (pos 1))
left_failed = state_by _ side_by_side both_sound 0 (Broken (ExitStatus (pos 1))) refl

pub right_built : state_in both side_by_side 1 ≡ Done
right_built = state_by _ side_by_side both_sound 1 Ended refl

legal_both : IsLegal both (begun (begun (opened []) 0) 1)
legal_both =
    legal_begin (begun (opened []) 0) 1
    (legal_begin (opened []) 0 (legal_opening [] journal) (omega arith) (wanted [] 0 (omega arith))
    first_ready) (omega arith) (wanted [] 1 (omega arith)) second_ready

legal : IsLegal both side_by_side
legal =
    legal_fail (ended (begun (begun (opened []) 0) 1) 1 1 made) 0 0 (ExitStatus (pos 1))
    (legal_done (begun (begun (opened []) 0) 1) 1 1 right (nothing_in ∷ []) made legal_both refl
    refl (right_allowed _ [] (none_valid right)) right_entry) refl

answered : IsAnswered may_leave both side_by_side
answered =
    answered_fail (ended (begun (begun (opened []) 0) 1) 1 1 made) 0 0 (ExitStatus (pos 1))
    (answered_done (begun (begun (opened []) 0) 1) 1 1 right (nothing_in ∷ []) made
    (answered_begin (begun (opened []) 0) 1
    (answered_begin (opened []) 0 (answered_opening []))) refl (right_after []) right_entry)
    (inr (left_behind _))

pub closed_failed : (s : State) (reason : Reason) → s ≡ Failed reason → IsOpen s → ⊥
closed_failed s reason is (inl blocked) = cc
closed_failed s reason is (inr (inl ready)) = cc
closed_failed s reason is (inr (inr (lease, building))) = cc

pub closed_done : (s : State) → s ≡ Done → IsOpen s → ⊥
closed_done s is (inl blocked) = cc
closed_done s is (inr (inl ready)) = cc
closed_done s is (inr (inr (lease, building))) = cc

settled : IsRunSettled both side_by_side
settled zero low is = closed_failed _ _ left_failed
settled (suc zero) low is = closed_done _ right_built
settled (suc (suc d)) low is = absurd (omega arith)

memory : HasMemory both side_by_side
memory zero low is failed = search (rules, left_failed)
memory (suc zero) low is failed = search (rules, right_built)
memory (suc (suc d)) low is failed = absurd (omega arith)

pub whole : IsWholeRun may_leave both side_by_side
whole = search (rules, both_sound, legal, settled, answered, memory, both_outcome)

pub overlap : Overlap side_by_side 0 1
overlap = record {
  before = Begin 0 0 ∷ Begin 1 1 ∷ [];
  after = Finish 1 1 ∷ Fail 0 0 (ExitStatus (pos 1)) ∷ [];
  parts = refl;
  one = 0;
  other = 1;
  first = refl;
  second = refl;
}

-- ---- in turn

right_ready : state_in both (failed (begun (opened []) 0) 0 0 (ExitStatus (pos 1))) 1 ≡ Ready
right_ready = search (rules, unhindered_ready, both_sound, unhindered)

pub thread : IsOneThread may_leave both [] in_turn
thread =
    turn_done 1 (failed (begun (opened []) 0) 0 0 (ExitStatus (pos 1))) right (nothing_in ∷ []) made
    (turn_failed 0 (opened []) (ExitStatus (pos 1)) (turn_opening journal)
    (record { within = omega arith; wanted = wanted [] 0 (omega arith); ready = first_ready })
    (left_behind []))
    (record { within = omega arith; wanted = wanted [] 1 (omega arith); ready = right_ready })
    refl (right_after []) right_entry
