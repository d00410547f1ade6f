-- A derivation that ended with a verdict in two histories has the same in both, where its seeds are
-- carried both ways.
use Rattle.std.proofs.Common.{◌≡◌, ◌∙◌, ◌↔◌, ℕ, List, ◌++◌, length, Result, Ok, Err, Some, sym, ap, subst, rules}
use Rattle.std.specs.Prelude.{Contains, slice_get}
use Rattle.std.proofs.lemmas.List.{length-map}
use Rattle.nix_names.proofs.Lists.{same_element}
use Rattle.nix_names.proofs.RisingLists.{rising_same}
use Rattle.drv_graph.specs.Nodes.{Node}
use Rattle.drv_graph.specs.PlanNodes.{output_paths_of}
use Rattle.drv_graph.specs.Plans.{Graph}
use Rattle.valid_table.specs.Entries.{registered}
use Rattle.valid_table.specs.PathInfos.{PathInfo}
use Rattle.valid_table.specs.Closure.{Reaches}
use Rattle.valid_table.specs.Valid.{IsOnce, IsValid}
use Rattle.valid_table.specs.declared.entry.Entry.{Entry}
use Rattle.valid_table.specs.declared.entry.Registration.{Registration}
use Rattle.valid_table.proofs.JournalLists.{registered-append}
use Rattle.sched_core.specs.Books.{ArePermittedPaths}
use Rattle.build_outcome.specs.Jobs.{IsJob, seeds_of}
use Rattle.run_states.specs.Legal.{ArePermitted, ArePermittedTo, MayRefer}
use Rattle.run_states.specs.Runs.{History, Run}
use Rattle.build_outcome.specs.Checks.{IsTestedVerdict, ReachAlike, record_at}
use Rattle.build_outcome.specs.Verdicts.{outputs_of}
use Rattle.build_outcome.specs.declared.job.Answer.{Answer}
use Rattle.build_outcome.specs.declared.job.Job.{Job}
use Rattle.build_outcome.specs.declared.job.JobOutput.{JobOutput}
use Rattle.build_outcome.specs.declared.reason.Reason.{Reason}
use Rattle.build_outcome.proofs.TestedVerdicts.{tested_verdict_stays}
use Rattle.run_states.proofs.Dones.{reached_is_valid}
use Rattle.run_states.proofs.Seeds.{permitted_stays}
use Rattle.store_run.specs.Builders.{IsOutcomeVerdict, IsVerdictAfter}
use Rattle.store_run.specs.Scheduling.{HasOneOutcome}
use Rattle.store_run.proofs.Answered.{came_may_refer}
use Rattle.store_run.proofs.Carried.{IsCarried, may_refer_there, reach_both, reach_more, record_both, referred_valid}
use Rattle.store_run.proofs.KnownRecords.{record_after}
use Rattle.store_run.proofs.Telling.{CameTo}

-- ---- a job's parts are its derivation's

pub job_seeds : (graph : Graph) (d : ℕ) (job : Job) (node : Node) → IsJob graph d job
    → slice_get graph.nodes d ≡ Some node → job.seeds.items ≡ seeds_of graph.nodes node.drv
job_seeds graph d job node is at = search (rules, same_element)

pub job_outputs : (graph : Graph) (d : ℕ) (job : Job) (node : Node) → IsJob graph d job
    → slice_get graph.nodes d ≡ Some node → outputs_of job ≡ output_paths_of node.drv
job_outputs graph d job node is at = search (rules, same_element)

-- what is permitted to the job is permitted to the derivation
pub permitted_job : (graph : Graph) (d : ℕ) (job : Job) (node : Node) (entries : List Entry)
    (permitted : List (List ℕ)) → IsJob graph d job → slice_get graph.nodes d ≡ Some node
    → ArePermittedPaths entries job permitted
    → ArePermitted (registered entries) (seeds_of graph.nodes node.drv) (output_paths_of node.drv)
    permitted
permitted_job graph d job node entries permitted is at are = search (rules, job_seeds, job_outputs)

-- each reference in the records of a derivation is permitted there
pub refers_after : (may : Job → Result Answer Reason → Type 0) (run : Run) (entries : List Entry)
    (d : ℕ) (node : Node) (infos : List PathInfo) → slice_get run.graph.nodes d ≡ Some node
    → IsVerdictAfter may run entries d (Ok infos) → ArePermittedTo run.graph entries node infos
refers_after may run entries d node infos at ending info path has refers =
    let job = ending.job in
    let there : MayRefer (registered entries) job.seeds.items (outputs_of job) path =
    came_may_refer may entries _ _ ending.ends_as info path has refers in
    subst (λ (seeds : List (List ℕ)). MayRefer (registered entries) seeds (output_paths_of node.drv)
    path) (job_seeds _ d _ _ ending.is_job at)
    (subst (λ (outputs : List (List ℕ)). MayRefer (registered entries) job.seeds.items outputs
    path) (job_outputs _ d _ _ ending.is_job at) there)

-- ---- what is permitted after the first entries is permitted after all

module _ (may : Job → Result Answer Reason → Type 0) (run : Run) (history : History)
    (once : IsOnce (registered history.entries)) (d : ℕ) (node : Node)
    (at : slice_get run.graph.nodes d ≡ Some node) where
  pub permitted_whole : (verdict : Result (List PathInfo) Reason)
      (came : CameTo may run history d verdict) (path : List ℕ)
      → MayRefer (registered came.before) (seeds_of run.graph.nodes node.drv)
      (output_paths_of node.drv) path
      ↔ MayRefer (registered history.entries) (seeds_of run.graph.nodes node.drv)
      (output_paths_of node.drv) path
  permitted_whole verdict came path =
      let seeds = seeds_of run.graph.nodes node.drv in
      let outputs = output_paths_of node.drv in
      let whole : registered history.entries ≡ registered came.before ++ registered came.more =
      ap registered came.parts ∙ registered-append came.before came.more in
      subst (λ (rs : List Registration). MayRefer (registered came.before) seeds outputs path
      ↔ MayRefer rs seeds outputs path) (sym whole)
      (permitted_stays (registered came.before) (registered came.more) seeds outputs path
      came.closed (subst IsOnce whole once) (came.seeds node at))

  -- a path that was valid then reaches the same after all
  pub reach_whole : (verdict : Result (List PathInfo) Reason)
      (came : CameTo may run history d verdict) (from to : List ℕ)
      → IsValid (registered came.before) from
      → Reaches (registered came.before) from to ↔ Reaches (registered history.entries) from to
  reach_whole verdict came from to valid =
      let whole : registered history.entries ≡ registered came.before ++ registered came.more =
      ap registered came.parts ∙ registered-append came.before came.more in
      subst (λ (rs : List Registration). Reaches (registered came.before) from to
      ↔ Reaches rs from to) (sym whole)
      (reach_more (registered came.before) (registered came.more) came.closed
      (subst IsOnce whole once) from to valid)

  -- each reference of what was built may stand there
  pub came_refers : (infos : List PathInfo) → CameTo may run history d (Ok infos)
      → (info : PathInfo) (path : List ℕ) → Contains infos info → Contains info.references path
      → MayRefer (registered history.entries) (seeds_of run.graph.nodes node.drv)
      (output_paths_of node.drv) path
  came_refers infos came info path has refers =
      (permitted_whole (Ok infos) came _).0
      (refers_after may _ _ d _ _ at came.ending info path has refers)

  -- there is a record for each output
  pub came_count : (infos : List PathInfo) → CameTo may run history d (Ok infos)
      → length infos ≡ length (output_paths_of node.drv)
  came_count infos came =
      let job = came.ending.job in
      by came.ending.ends_as.0 came.ending.ends_as.2
      ∙ sym (length-map job.outputs.items (λ (o : JobOutput). o.path))
      ∙ ap length (job_outputs _ d _ _ came.ending.is_job at)
    where
      by : (outcome : Result Answer Reason)
          → IsOutcomeVerdict came.before came.ending.job outcome (Ok infos)
          → length infos ≡ length came.ending.job.outputs.items
      by (Ok answer) is = is.2.0.1.count
      by (Err reason) is = let no = is.2 in absurd cc

-- ---- two histories

module _ (may : Job → Result Answer Reason → Type 0) (run : Run)
    (outcome : HasOneOutcome may run.graph) (history other : History)
    (once : IsOnce (registered history.entries)) (once' : IsOnce (registered other.entries))
    (d : ℕ) (node : Node) (at : slice_get run.graph.nodes d ≡ Some node)
    (there : (seed : List ℕ) → Contains (seeds_of run.graph.nodes node.drv) seed
    → IsCarried (registered history.entries) (registered other.entries) seed)
    (back : (seed : List ℕ) → Contains (seeds_of run.graph.nodes node.drv) seed
    → IsCarried (registered other.entries) (registered history.entries) seed) where
  same_permitted : (v w : Result (List PathInfo) Reason) (came : CameTo may run history d v)
      (came' : CameTo may run other d w) (p q : List (List ℕ))
      → ArePermittedPaths came.before came.ending.job p
      → ArePermittedPaths came'.before came'.ending.job q → p ≡ q
  same_permitted v w came came' p q of_p of_q =
      let seeds = seeds_of run.graph.nodes node.drv in
      let outputs = output_paths_of node.drv in
      let are = permitted_job run.graph d came.ending.job node came.before p came.ending.is_job at
      of_p in
      let are' = permitted_job run.graph d came'.ending.job _ came'.before q
      came'.ending.is_job at of_q in
      rising_same p q are.rising are'.rising (λ path. (
        λ has. (are'.each path).1
            ((permitted_whole _ _ _ once' d node at w came' path).1
            (may_refer_there _ _ _ _
            there _
            ((permitted_whole _ _ history once d node at v came path).0
            ((are.each path).0 has)))),
        λ has. (are.each path).1
            ((permitted_whole may run history once d node at v came path).1
            (may_refer_there (registered other.entries) (registered history.entries) seeds outputs
            back path
            ((permitted_whole may run other once' d node at w came' path).0
            ((are'.each path).0 has)))),
      ))

  -- what is permitted reaches the same after the first entries of either, but for outputs
  reach_first : (v w : Result (List PathInfo) Reason) (came : CameTo may run history d v)
      (came' : CameTo may run other d w) (from to : List ℕ)
      → MayRefer (registered came.before) (seeds_of run.graph.nodes node.drv)
      (output_paths_of node.drv) from
      → (Contains (output_paths_of node.drv) from → ⊥)
      → Reaches (registered came.before) from to ↔ Reaches (registered came'.before) from to
  reach_first v w came came' from to first foreign =
      let seeds = seeds_of run.graph.nodes node.drv in
      let outputs = output_paths_of node.drv in
      let all = registered history.entries in
      let all' = registered other.entries in
      let whole = (permitted_whole may run history once d node at v came from).0 first in
      let first' = (permitted_whole may run other once' d node at w came' from).1
      (may_refer_there all all' seeds outputs there from whole) in
      let here = reach_whole may run history once d node at v came from to
      (referred_valid (registered came.before) seeds outputs from first foreign) in
      let here' = reach_whole may run other once' d node at w came' from to
      (referred_valid (registered came'.before) seeds outputs from first' foreign) in
      let both = reach_both all all' seeds outputs there back from to whole foreign in
      (λ reaches. here'.1 (both.0 (here.0 reaches)), λ reaches. here.1 (both.1 (here'.0 reaches)))

  -- with the same records
  record_first : (v w : Result (List PathInfo) Reason) (came : CameTo may run history d v)
      (came' : CameTo may run other d w) (from to : List ℕ)
      → MayRefer (registered came.before) (seeds_of run.graph.nodes node.drv)
      (output_paths_of node.drv) from
      → (Contains (output_paths_of node.drv) from → ⊥) → Reaches (registered came.before) from to
      → record_at (registered came.before) to ≡ record_at (registered came'.before) to
  record_first v w came came' from to first foreign reaches =
      let seeds = seeds_of run.graph.nodes node.drv in
      let outputs = output_paths_of node.drv in
      let all = registered history.entries in
      let all' = registered other.entries in
      let whole = (permitted_whole may run history once d node at v came from).0 first in
      let here = reach_whole may run history once d node at v came from to
      (referred_valid (registered came.before) seeds outputs from first foreign) in
      let far = (reach_first v w came came' from to first foreign).0 reaches in
      record_after came.before history.entries to (came.more, sym came.parts)
      (reached_is_valid (registered came.before) from to reaches.0 reaches.1)
      ∙ record_both all all' seeds outputs once there back from to whole foreign (here.0 reaches)
      ∙ sym (record_after came'.before other.entries to (came'.more, sym came'.parts)
      (reached_is_valid (registered came'.before) from to far.0 far.1))

  alike_first : (v w : Result (List PathInfo) Reason) (came : CameTo may run history d v)
      (came' : CameTo may run other d w) (p : List (List ℕ))
      → ArePermittedPaths came.before came.ending.job p
      → ReachAlike (registered came.before) (registered came'.before) came.ending.job p
  alike_first v w came came' p of_p = record {
    reach = λ from to has foreign.
        reach_first v w came came' from to (first from has) (apart from foreign);
    records = λ from to has foreign reaches.
        record_first v w came came' from to (first from has) (apart from foreign) reaches;
  }
    where
      first : (from : List ℕ) → Contains p from
          → MayRefer (registered came.before) (seeds_of run.graph.nodes node.drv)
          (output_paths_of node.drv) from
      first from has =
          ((permitted_job run.graph d came.ending.job node came.before p came.ending.is_job at
          of_p).each from).0 has

      apart : (from : List ℕ) → (Contains (outputs_of came.ending.job) from → ⊥)
          → Contains (output_paths_of node.drv) from → ⊥
      apart from foreign own =
          foreign (subst (λ (outputs : List (List ℕ)). Contains outputs from)
          (sym (job_outputs run.graph d came.ending.job node came.ending.is_job at)) own)

  -- there is one verdict
  pub one_verdict : (v w : Result (List PathInfo) Reason) → CameTo may run history d v
      → CameTo may run other d w → v ≡ w
  one_verdict v w came came' =
      by came.ending.ends_as.0 came'.ending.ends_as.0 came.ending.ends_as.1
      came'.ending.ends_as.1 came.ending.ends_as.2 came'.ending.ends_as.2
    where
      job : Job
      job = came.ending.job

      again : Job
      again = came'.ending.job

      first : List Registration
      first = registered came.before

      first' : List Registration
      first' = registered came'.before

      by : (x y : Result Answer Reason) → may job x → may again y
          → IsOutcomeVerdict came.before job x v → IsOutcomeVerdict came'.before again y w → v ≡ w
      by (Ok a) (Ok b) may_a may_b is is' =
          outcome d job again first' is.0 (Ok a) (Ok b) v w came.ending.is_job
          came'.ending.is_job may_a may_b
          (tested_verdict_stays first first' job is.0 a v (alike_first v w came came' is.0 is.1)
          is.2)
          (subst (λ (ps : List (List ℕ)). IsTestedVerdict first' again ps b w)
          (sym (same_permitted v w came came' is.0 is'.0 is.1 is'.1)) is'.2)
      by (Ok a) (Err r) may_a may_b is is' =
          outcome d job again first is.0 (Ok a) (Err r) v w came.ending.is_job
          came'.ending.is_job may_a may_b is.2 is'.2
      by (Err r) (Ok b) may_a may_b is is' =
          outcome d job again first' is'.0 (Err r) (Ok b) v w came.ending.is_job
          came'.ending.is_job may_a may_b is.2 is'.2
      by (Err r) (Err s) may_a may_b is is' =
          outcome d job again first is.0 (Err r) (Err s) v w came.ending.is_job
          came'.ending.is_job may_a may_b is.2 is'.2
