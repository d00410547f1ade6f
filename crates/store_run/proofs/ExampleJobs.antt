-- How the jobs of the two derivations end.
use Rattle.std.proofs.Common.{◌≡◌, ◌∙◌, ◌<◌, ◌^◌, inl, ℕ, zero, suc, true, false, List, [], ◌∷◌, length, map, Some, None, Result, Ok, Err, ap, refl, sym, subst, arith, rules}
use Rattle.std.specs.Prelude.{IsTrue, codes, pos, slice_get}
use Rattle.std.specs.declared.alloc.Global.{Global}
use Rattle.std.specs.declared.vec.Vec.{Vec}
use Rattle.std.proofs.Math.Nat.{le_refl}
use Rattle.std.proofs.lemmas.List.{length-map}
use Rattle.std.proofs.lemmas.Option.{same_Some}
use Rattle.nix_names.specs.Names.{same_bytes}
use Rattle.nix_names.specs.declared.digest.Algorithm.{Algorithm}
use Rattle.nix_names.specs.declared.digest.Algorithm.TheVariants.{Sha256}
use Rattle.nix_names.proofs.Lists.{Contains-nothing, same_element}
use Rattle.nix_drv.specs.Derivation.{Output}
use Rattle.nix_drv.specs.Parts.{bytes_of}
use Rattle.nix_drv.specs.declared.derivation.EnvEntry.{EnvEntry as EnvEntryStruct}
use Rattle.drv_graph.specs.Kinds.{HasKind}
use Rattle.drv_graph.specs.Nodes.{Node}
use Rattle.drv_graph.specs.PlanNodes.{output_paths_of}
use Rattle.drv_graph.specs.Plans.{Graph, LeadsBy}
use Rattle.drv_graph.specs.declared.kinds.Kind.{Kind}
use Rattle.drv_graph.specs.declared.kinds.Kind.TheVariants.{Addressed}
use Rattle.drv_graph.specs.declared.profile.Profile.{Profile}
use Rattle.drv_graph.specs.declared.profile.Profile.TheVariants.{Plain}
use Rattle.drv_graph.proofs.KindAnswers.{one_kind}
use Rattle.ref_scan.specs.Scan.{IsFound}
use Rattle.ref_scan.specs.Trees.{Fits, depth_among, entry_count_among, file_bytes_among, pieces_among}
use Rattle.ref_scan.specs.declared.tree.Tree.{Tree, File, Pieces, Executable, Link, Dir', Row_of-Member, end_of-Member, more_of-Member}
use Rattle.valid_table.specs.PathInfos.{PathInfo}
use Rattle.valid_table.specs.declared.entry.Registration.{Registration}
use Rattle.build_outcome.specs.Jobs.{IsJob, seeds_of, whole_inputs_of}
use Rattle.build_outcome.specs.Verdicts.{IsCyclic, IsRecordAt, IsRecordDigest, IsRecordNar, IsRecordOf, IsTreeFault, IsUnread, IsVerdict, NeedsArchive, OthersMayWriteAt, OutputRefersTo, file_digest_of, flat_digest, left_at, outputs_of, tree_at}
use Rattle.build_outcome.specs.declared.job.Answer.{Answer}
use Rattle.build_outcome.specs.declared.job.Job.{Job}
use Rattle.build_outcome.specs.declared.job.JobOutput.{JobOutput}
use Rattle.build_outcome.specs.declared.job.LeftOutput.{LeftOutput}
use Rattle.build_outcome.specs.declared.reason.Reason.{Reason}
use Rattle.build_outcome.specs.declared.reason.Reason.TheVariants.{BadMode, BadSpecifier, ExitStatus, HashMismatch, Killed, MissingOutput, NoStart, NotAllowed, NotFlatFile, OutOfMemory, OutputCycle, ReadFault, TooLarge, BadAttributes, BadGraph, UnknownNar, PastMaxSize, PastMaxClosureSize}
use Rattle.build_outcome.proofs.TestedVerdicts.{has_one_tested_verdict}
use Rattle.store_run.specs.Builders.{IsVerdictOn}
use Rattle.store_run.specs.Scheduling.{HasOneOutcome}
use Rattle.store_run.specs.ScheduleExample.{IsEmptyFolder, Leaves, Recipe, both, drv_alone, failing, left, making, may_leave, out_alone, owned, right}
use Rattle.store_run.proofs.AlonePlans.{kind_alone, out_short}
use Rattle.store_run.proofs.SameTests.{plain_tested}
use Rattle.store_run.proofs.SameVerdicts.{said_of}
use denote.RawPtr.{null_ptr}

-- ---- an empty folder

no_depth : {m : _} (row : Row_of-Member m) → pieces_among row ≡ [] → depth_among row ≡ 0
no_depth end_of-Member none = refl
no_depth (more_of-Member name tree rest) none = absurd cc

no_entries : {m : _} (row : Row_of-Member m) → pieces_among row ≡ [] → entry_count_among row ≡ 0
no_entries end_of-Member none = refl
no_entries (more_of-Member name tree rest) none = absurd cc

no_bytes : {m : _} (row : Row_of-Member m) → pieces_among row ≡ [] → file_bytes_among row ≡ 0
no_bytes end_of-Member none = refl
no_bytes (more_of-Member name tree rest) none = absurd cc

pub empty_fits : (tree : Tree) → IsEmptyFolder tree → Fits tree
empty_fits (File bytes) is = absurd cc
empty_fits (Pieces parts) is = absurd cc
empty_fits (Executable parts) is = absurd cc
empty_fits (Link target) is = absurd cc
empty_fits (Dir' shape entries) is = search (rules, no_depth, no_entries, no_bytes)

-- it has no digest by any algorithm
pub empty_digest_of : (algorithm : Algorithm) (tree : Tree) → IsEmptyFolder tree
    → file_digest_of algorithm tree ≡ None
empty_digest_of algorithm (File bytes) is = absurd cc
empty_digest_of algorithm (Pieces parts) is = absurd cc
empty_digest_of algorithm (Executable parts) is = absurd cc
empty_digest_of algorithm (Link target) is = absurd cc
empty_digest_of algorithm (Dir' shape entries) is = refl

-- its record
abbrev pub nothing_in : PathInfo
nothing_in = record { references = []; digest = None; nar = None }

found_in_empty : (permitted : List (List ℕ)) (tree : Tree) → IsEmptyFolder tree
    → IsFound tree permitted []
found_in_empty permitted tree is = search (rules, is, Contains-nothing)

record_of_empty : (job : Job) → job.profile ≡ Plain → job.kind ≡ Addressed
    → (permitted : List (List ℕ)) (tree : Tree) → IsEmptyFolder tree
    → IsRecordOf job permitted tree nothing_in
record_of_empty job plain addressed permitted tree is = record {
  found = found_in_empty permitted tree is;
  digest = said_of (λ (p : Profile) (k : Kind). IsRecordDigest p k tree None) Plain job.profile
      Addressed job.kind (sym plain) (sym addressed)
      (sym (ap flat_digest (empty_digest_of Sha256 tree is)));
  nar = subst (λ (p : Profile). IsRecordNar p tree None) (sym plain) refl;
}

no_fault : (tree : Tree) → IsEmptyFolder tree → (why : Reason)
    → IsTreeFault Plain Addressed tree why → ⊥
no_fault tree is TooLarge unfit = unfit (empty_fits _ is)
no_fault tree is (ExitStatus n) none = none
no_fault tree is NoStart none = none
no_fault tree is (MissingOutput n) none = none
no_fault tree is NotFlatFile none = none
no_fault tree is HashMismatch none = none
no_fault tree is OutputCycle none = none
no_fault tree is ReadFault none = none
no_fault tree is OutOfMemory none = none
no_fault tree is Killed none = none
no_fault tree is (BadMode n) none = none
no_fault tree is (NotAllowed output index) none = none
no_fault tree is (BadSpecifier output) none = none
no_fault tree is BadAttributes none = none
no_fault tree is BadGraph none = none
no_fault tree is (UnknownNar index) none = none
no_fault tree is (PastMaxSize output) none = none
no_fault tree is (PastMaxClosureSize output) none = none

-- ---- records without references

module _ (info : PathInfo) (none : info.references ≡ []) where
  info_is : (n : ℕ) (other : PathInfo) → slice_get (info ∷ []) n ≡ Some other → info ≡ other
  info_is zero other at = cc
  info_is (suc n) other at = absurd cc

  pub no_cycle : (outputs : List (List ℕ)) → IsCyclic outputs (info ∷ []) → ⊥
  no_cycle outputs (a, b, there, back, apart, leads, leads') = by there leads
    where
      by : (steps : List (List ℕ)) → LeadsBy (OutputRefersTo outputs (info ∷ [])) a b steps → ⊥
      by [] same = apart same
      by (next ∷ steps) ((n, other, from, at, refers, to), rest) =
          search (rules, Contains-nothing, info_is)

-- ---- the verdicts

pub tree_first : (answer : Answer) (tree : Tree) → answer.outputs.items ≡ Some (owned tree) ∷ []
    → tree_at answer 0 ≡ Some tree
tree_first answer tree leaves = rw leaves refl

-- what only its owner may write
left_first : (answer : Answer) (tree : Tree) → answer.outputs.items ≡ Some (owned tree) ∷ []
    → left_at answer 0 ≡ Some (owned tree)
left_first answer tree leaves = rw leaves refl

left_later : (answer : Answer) (tree : Tree) (n : ℕ)
    → answer.outputs.items ≡ Some (owned tree) ∷ [] → left_at answer (suc n) ≡ None
left_later answer tree n leaves = rw leaves refl

pub owned_one : (answer : Answer) (tree : Tree) → answer.outputs.items ≡ Some (owned tree) ∷ []
    → (n : ℕ) → OthersMayWriteAt answer n → ⊥
owned_one answer tree leaves zero (left, at, may) =
    let same : left ≡ owned tree =
    same_Some left (owned tree) (sym at ∙ left_first answer tree leaves) in
    let never : IsTrue false =
    subst (λ (l : LeftOutput). IsTrue l.others_may_write) same may in
    absurd cc
owned_one answer tree leaves (suc n) (left, at, may) =
    let clash = sym (left_later answer tree n leaves) ∙ at in absurd cc

-- on one tree, that is read and taken, at the one output of a job
module _ (job : Job) (one_output : length job.outputs.items ≡ 1) (answer : Answer) (tree : Tree)
    (status : answer.status ≡ Some (pos 0))
    (leaves : answer.outputs.items ≡ Some (owned tree) ∷ [])
    (sound : (why : Reason) → IsTreeFault job.profile job.kind tree why → ⊥)
    (read : IsUnread job tree → ⊥) where
  taken_at : (n : ℕ) → n < length job.outputs.items → tree_at answer n ≡ Some tree
  taken_at zero low = tree_first answer tree leaves
  taken_at (suc n) low = search rules

  pub one_verdict : (permitted : List (List ℕ)) (info : PathInfo) → info.references ≡ []
      → IsRecordOf job permitted tree info
      → IsVerdict job permitted answer (Ok (info ∷ []))
  one_verdict permitted info none is_record = (
    (
      (
        status,
        λ n low nothing. let clash = sym nothing ∙ taken_at n low in cc,
        λ n low unread.
            let same : unread.0 ≡ tree = let both_at = sym unread.1 ∙ taken_at n low in cc in
            read (subst (IsUnread job) same unread.2),
      ),
      λ n low bad. owned_one answer tree leaves n bad.1,
      λ n why low fault.
          let same : fault.0 ≡ tree = let both_at = sym fault.1 ∙ taken_at n low in cc in
          sound why (subst (λ (t : Tree). IsTreeFault job.profile job.kind t why) same fault.2),
    ),
    record { count = sym one_output; each = records },
    no_cycle _ none (outputs_of job),
  )
    where
      records : (n : ℕ) (other : PathInfo) → slice_get (info ∷ []) n ≡ Some other
          → IsRecordAt job permitted answer n other
      records zero other at = search (rules, tree_first, info_is)
      records (suc n) other at = absurd cc

-- on what right made, wherever it stands in a plan
module _ (graph : Graph) (d : ℕ) (at : slice_get graph.nodes d ≡ Some right) (job : Job)
    (is_job : IsJob graph d job) where
  right_node : is_job.node ≡ right
  right_node = search (rules, same_element)

  right_one_output : length job.outputs.items ≡ 1
  right_one_output = search (rules, length-map, right_node)

  right_kind : job.kind ≡ Addressed
  right_kind = search (rules, one_kind, right_node, kind_alone)

  pub right_builder : job.builder.items ≡ codes "/bin/sh"
  right_builder = search (rules, right_node)

  pub right_verdict : graph.profile ≡ Plain → (answer : Answer) → Leaves false answer
      → (permitted : List (List ℕ)) → IsVerdict job permitted answer (Ok (nothing_in ∷ []))
  right_verdict plain answer left_behind permitted =
      let folder = left_behind.1.0 in
      let profile : job.profile ≡ Plain = is_job.profile ∙ plain in
      one_verdict job right_one_output answer folder left_behind.0 left_behind.1.2
      (λ why fault. no_fault folder left_behind.1.1 why
      (said_of (λ (p : Profile) (k : Kind). IsTreeFault p k folder why) job.profile Plain job.kind
      Addressed profile right_kind fault))
      (λ unread. said_of (λ (p : Profile) (k : Kind). NeedsArchive p k) job.profile Plain job.kind
      Addressed profile right_kind unread.0)
      permitted nothing_in refl
      (record_of_empty job profile right_kind permitted folder left_behind.1.1)

pub left_verdict : (job : Job) (permitted : List (List ℕ)) (answer : Answer)
    → Leaves true answer → IsVerdict job permitted answer (Err (ExitStatus (pos 1)))
left_verdict job permitted answer left_behind = (left_behind.0, λ same. cc)

left_builder : (job : Job) → IsJob both.graph 0 job → job.builder.items ≡ codes "/bin/false"
left_builder job is = search (rules, same_element)

-- how each derivation ends
abbrev pub ends_as : ℕ → Result (List PathInfo) Reason
ends_as zero = Err (ExitStatus (pos 1))
ends_as (suc d) = Ok (nothing_in ∷ [])

comes : (d : ℕ) (job : Job) (registrations : List Registration) (permitted : List (List ℕ))
    (x : Result Answer Reason) (a : Result (List PathInfo) Reason) → IsJob both.graph d job
    → may_leave job x → IsVerdictOn registrations job permitted x a → a ≡ ends_as d
comes d job registrations permitted (Err reason) a is may on = absurd may
comes zero job registrations permitted (Ok answer) a is may on =
    has_one_tested_verdict registrations job permitted answer a (ends_as 0) on
    (inl (left_verdict job permitted answer
    (subst (λ (b : List ℕ). Leaves (same_bytes b (codes "/bin/false")) answer)
    (left_builder job is) may)))
comes (suc zero) job registrations permitted (Ok answer) a is may on =
    has_one_tested_verdict registrations job permitted answer a (ends_as 1) on
    (plain_tested registrations job permitted answer (ends_as 1) is.profile
    (right_verdict _ 1 refl job is refl answer
    (subst (λ (b : List ℕ). Leaves (same_bytes b (codes "/bin/false")) answer)
    (right_builder both.graph 1 refl job is) may) permitted))
comes (suc (suc d)) job registrations permitted (Ok answer) a is may on = search rules

pub both_outcome : HasOneOutcome may_leave both.graph
both_outcome d job again registrations permitted x y a b is is' may may' on on' =
    comes d job registrations permitted x a is may on
    ∙ sym (comes d again registrations permitted y b is' may' on')

-- ---- a job and an answer for each

pub heap : Global
heap = record { memory = record { seal = tt } }

abbrev pub vec_of : {X : Type 0} → (xs : List X) → length xs < 2 ^ 63 → Vec X Global
vec_of xs few = record {
  ptr = null_ptr;
  len = length xs;
  cap = length xs;
  alloc = heap;
  items = xs;
  ok = (refl, le_refl (length xs));
  small = few;
}

small : (bytes : List ℕ) → length bytes < 1000 → length bytes < 2 ^ 63
small bytes few = omega arith

env_of : (key value : List ℕ) → length key < 2 ^ 63 → length value < 2 ^ 63 → EnvEntryStruct
env_of key value few few' = record { key = vec_of key few; value = vec_of value few' }

abbrev making_args : List (Vec ℕ Global)
making_args = vec_of (codes "-c") (omega arith)
    ∷ vec_of (codes "/bin/mkdir $out") (omega arith) ∷ []

-- a job of a derivation with one output, at this path
module _ (recipe : Recipe) (short : length recipe.name < 256)
    (few : length recipe.builder < 2 ^ 63) (args : List (Vec ℕ Global))
    (few_args : length args < 2 ^ 63) (out : List ℕ) (out_few : length out < 1000) (kind : Kind)
    (d : ℕ) (seeds : List (List ℕ)) (few_seeds : length seeds < 2 ^ 63) where
  env_entries : List EnvEntryStruct
  env_entries =
      env_of (codes "builder") recipe.builder (omega arith) few
      ∷ env_of (codes "name") recipe.name (omega arith) (omega arith)
      ∷ env_of (codes "out") out (omega arith) (small out out_few)
      ∷ env_of (codes "system") (codes "x86_64-linux") (omega arith) (omega arith) ∷ []

  job_output : JobOutput
  job_output = record { name = vec_of (codes "out") (omega arith); path = out }

  pub job_of : Job
  unfolding env_entries
  job_of = record {
    derivation = d;
    builder = vec_of recipe.builder few;
    args = vec_of args few_args;
    env = vec_of env_entries (omega arith);
    outputs = vec_of (job_output ∷ []) (omega arith);
    kind = kind;
    profile = Plain;
    seeds = vec_of seeds few_seeds;
    whole_inputs = vec_of [] (omega arith);
  }

  pub is_job_of : (graph : Graph) (node : Node) → Plain ≡ graph.profile
      → slice_get graph.nodes d ≡ Some node
      → recipe.builder ≡ node.drv.builder → map bytes_of args ≡ node.drv.args
      → (drv_alone recipe out).env ≡ node.drv.env
      → codes "out" ∷ [] ≡ map (λ (o : Output). o.name) node.drv.outputs
      → out ∷ [] ≡ output_paths_of node.drv → HasKind node.drv kind
      → seeds ≡ seeds_of graph.nodes node.drv → IsJob graph d job_of
  unfolding job_of env_entries env_of job_output
  is_job_of graph node plain at builder same env names paths has_kind are = record {
    node = node;
    is_node = at;
    derivation = refl;
    builder = builder;
    args = same;
    env = env;
    names = names;
    paths = paths;
    kind = has_kind;
    profile = plain;
    seeds = are;
    whole_inputs = ap (λ (p : Profile). whole_inputs_of p graph.nodes node.drv) plain;
  }

-- the job of right, by its number
pub job_of_right : ℕ → Job
job_of_right d = job_of making (omega arith) (omega arith) making_args (omega arith)
    (out_alone making) (out_short _ (omega arith)) Addressed d [] (omega arith)

pub is_job_of_right : (graph : Graph) (d : ℕ) → slice_get graph.nodes d ≡ Some right
    → Plain ≡ graph.profile → IsJob graph d (job_of_right d)
unfolding job_of_right
is_job_of_right graph d at plain = search (rules, is_job_of, making_args, out_short, kind_alone)

-- ---- of the two

pub left_job : Job
left_job = job_of failing (omega arith) (omega arith) [] (omega arith) (out_alone failing)
    (out_short _ (omega arith)) Addressed 0 [] (omega arith)

pub left_is_job : IsJob both.graph 0 left_job
unfolding left_job
left_is_job =
    is_job_of _ _ (omega arith) [] (omega arith) (out_alone failing)
    (out_short _ (omega arith)) Addressed 0 [] (omega arith) both.graph left refl refl refl refl
    refl refl refl (kind_alone _) refl

pub left_answer : Answer
left_answer = record { status = Some (pos 1); outputs = vec_of [] (omega arith) }

abbrev no_members : Tree
no_members = Dir' (vec_of [] (omega arith)) end_of-Member

pub right_answer : Answer
right_answer = record {
  status = Some (pos 0);
  outputs = vec_of (Some (owned no_members) ∷ []) (omega arith);
}

pub left_leaves : Leaves true left_answer
unfolding left_answer
left_leaves = (refl, refl)

pub right_leaves : Leaves false right_answer
unfolding right_answer
right_leaves = (refl, (no_members, refl, refl))

pub left_may : may_leave left_job (Ok left_answer)
left_may = search (rules, left_answer, left_builder, left_job, left_is_job, left_leaves)

pub right_may : may_leave (job_of_right 1) (Ok right_answer)
right_may = subst (λ (b : List ℕ). Leaves (same_bytes b (codes "/bin/false")) right_answer)
    (sym (right_builder both.graph 1 refl (job_of_right 1) (is_job_of_right _ 1 refl refl)))
    right_leaves
