-- How the jobs of the three derivations end.
use Rattle.std.proofs.Common.{◌≡◌, ◌∙◌, ℕ, zero, suc, true, false, List, [], ◌∷◌, ◌++◌, length, map, Some, None, Ok, Err, refl, sym, ap, subst, arith, rules}
use Rattle.std.specs.Prelude.{codes, pos, slice_get}
use Rattle.std.specs.List.{list_any}
use Rattle.std.specs.declared.alloc.Global.{Global}
use Rattle.std.specs.declared.vec.Vec.{Vec}
use Rattle.std.proofs.lemmas.List.{length-append, length-map}
use Rattle.std.proofs.lemmas.Option.{same_Some}
use Rattle.nix_names.specs.Names.{same_bytes}
use Rattle.nix_names.specs.StorePaths.{hash_part_of, store_path}
use Rattle.nix_names.specs.declared.digest.Algorithm.{Algorithm}
use Rattle.nix_names.specs.declared.digest.Algorithm.TheVariants.{Sha256}
use Rattle.nix_archive.specs.Archive.{nar}
use Rattle.nix_archive.specs.Trees.{Tree as ArchiveTree, File as ArchiveFile, Folder, Entries, NoEntries, IsArchivable}
use Rattle.nix_names.proofs.Lists.{Contains-nothing, same_element}
use Rattle.nix_names.proofs.PathDigests.{hash_part_of_fold}
use Rattle.nix_names.proofs.PathTexts.{hash_part_len, hash_part_of_path}
use Rattle.nix_drv.specs.Parts.{bytes_of}
use Rattle.drv_graph.specs.Kinds.{HasKind}
use Rattle.drv_graph.specs.Nodes.{Node}
use Rattle.drv_graph.specs.declared.kinds.Kind.{Kind}
use Rattle.drv_graph.specs.declared.profile.Profile.{Profile}
use Rattle.drv_graph.specs.declared.profile.Profile.TheVariants.{Plain, Nix}
use Rattle.drv_graph.proofs.KindAnswers.{one_kind}
use Rattle.ref_scan.specs.Archives.{AreEntriesOf, IsArchiveOf}
use Rattle.ref_scan.specs.Scan.{IsFound, IsFoundIn, OccursIn}
use Rattle.ref_scan.specs.Trees.{Fits, joined, pieces_among}
use Rattle.ref_scan.specs.declared.tree.Tree.{Tree, File, Pieces, Executable, Link, Dir', Row_of-Member, end_of-Member, more_of-Member}
use Rattle.valid_table.specs.PathInfos.{PathInfo}
use Rattle.build_outcome.specs.Jobs.{IsJob}
use Rattle.build_outcome.specs.Verdicts.{HasArchive, IsFlatFile, IsRecordDigest, IsRecordNar, IsRecordOf, IsTreeFault, IsVerdict, NeedsArchive, OthersMayWriteAt, digest_by, file_digest_of, left_at, tree_at}
use Rattle.build_outcome.specs.declared.job.Answer.{Answer}
use Rattle.build_outcome.specs.declared.job.Job.{Job}
use Rattle.build_outcome.specs.declared.reason.Reason.{Reason}
use Rattle.build_outcome.specs.declared.reason.Reason.TheVariants.{BadMode, BadSpecifier, ExitStatus, HashMismatch, Killed, MissingOutput, NoStart, NotAllowed, NotFlatFile, OutOfMemory, OutputCycle, ReadFault, TooLarge, BadAttributes, BadGraph, UnknownNar, PastMaxSize, PastMaxClosureSize}
use Rattle.store_run.specs.SameOutcomes.{AllowsOneOutcome, AreSameAnswers, AreSameTrees, HaveSameBytes}
use Rattle.store_run.specs.Scheduling.{HasOneOutcome}
use Rattle.store_run.specs.ScheduleExample.{IsEmptyFolder, Leaves, owned, right}
use Rattle.store_run.specs.TwinExample.{IsEmptyFile, LeavesWith, empty_digest, failing_twin, first_twin, making_twin, may_leave_file, of_empty, out_empty, script, second_twin, three}
use Rattle.store_run.proofs.AlonePlans.{one_of, store}
use Rattle.store_run.proofs.ExampleJobs.{empty_digest_of, empty_fits, is_job_of, is_job_of_right, job_of, job_of_right, left_answer, left_leaves, one_verdict, owned_one, right_answer, right_leaves, tree_first, vec_of}
use Rattle.store_run.proofs.SameOutcomes.{allowed_is_one}
use Rattle.store_run.proofs.SameVerdicts.{said_of}
use Rattle.store_run.proofs.TwinPlans.{empty_kind, kind_empty, output_short, src_named}

-- ---- a file of no bytes

file_fits : (tree : Tree) → IsEmptyFile tree → Fits tree
file_fits (File bytes) is = search rules
file_fits (Pieces parts) is = search rules
file_fits (Executable parts) is = absurd is.0
file_fits (Link target) is = absurd is.0
file_fits (Dir' shape entries) is = absurd is.0

-- its digest by each algorithm is that of no bytes
digest_of_file : (algorithm : Algorithm) (tree : Tree) → IsEmptyFile tree
    → file_digest_of algorithm tree ≡ Some (digest_by algorithm [])
digest_of_file algorithm (File bytes) is = search rules
digest_of_file algorithm (Pieces parts) is = search rules
digest_of_file algorithm (Executable parts) is = absurd is.0
digest_of_file algorithm (Link target) is = absurd is.0
digest_of_file algorithm (Dir' shape entries) is = absurd is.0

-- it is a file under each profile
plain_file : (tree : Tree) → IsFlatFile Nix tree → IsFlatFile Plain tree
plain_file (File bytes) is = tt
plain_file (Pieces parts) is = tt
plain_file (Executable parts) is = absurd is
plain_file (Link target) is = absurd is
plain_file (Dir' shape entries) is = absurd is

flat_file : (profile : Profile) (tree : Tree) → IsEmptyFile tree → IsFlatFile profile tree
flat_file Plain tree is = plain_file tree is.0
flat_file Nix tree is = is.0

-- its record
abbrev pub file_in : PathInfo
file_in = record { references = []; digest = Some of_empty; nar = None }

no_file_fault : (tree : Tree) → IsEmptyFile tree → (why : Reason)
    → IsTreeFault Plain empty_kind tree why → ⊥
no_file_fault tree is TooLarge unfit = unfit (file_fits tree is)
no_file_fault tree is NotFlatFile fault = fault.1 (flat_file Plain tree is)
no_file_fault tree is HashMismatch (taken, form, (found, by, apart)) =
    apart (same_Some found empty_digest (sym by ∙ digest_of_file Sha256 tree is))
no_file_fault tree is (ExitStatus n) none = none
no_file_fault tree is NoStart none = none
no_file_fault tree is (MissingOutput n) none = none
no_file_fault tree is OutputCycle none = none
no_file_fault tree is ReadFault none = none
no_file_fault tree is OutOfMemory none = none
no_file_fault tree is Killed none = none
no_file_fault tree is (BadMode n) none = none
no_file_fault tree is (NotAllowed output index) none = none
no_file_fault tree is (BadSpecifier output) none = none
no_file_fault tree is BadAttributes none = none
no_file_fault tree is BadGraph none = none
no_file_fault tree is (UnknownNar index) none = none
no_file_fault tree is (PastMaxSize output) none = none
no_file_fault tree is (PastMaxClosureSize output) none = none

module _ (job : Job) (plain : job.profile ≡ Plain) (kind : job.kind ≡ empty_kind) where
  record_of_file : (permitted : List (List ℕ)) (tree : Tree) → IsEmptyFile tree
      → IsFound tree permitted [] → IsRecordOf job permitted tree file_in
  record_of_file permitted tree is found = record {
    found = found;
    digest = said_of (λ (p : Profile) (k : Kind). IsRecordDigest p k tree (Some of_empty)) Plain
        job.profile empty_kind job.kind (sym plain) (sym kind)
        (empty_digest, refl, digest_of_file Sha256 tree is);
    nar = subst (λ (p : Profile). IsRecordNar p tree None) (sym plain) refl;
  }

  -- the verdict on one such file, where no permitted path is found in it
  pub file_verdict : length job.outputs.items ≡ 1 → (permitted : List (List ℕ))
      → ((tree : Tree) → IsEmptyFile tree → IsFound tree permitted []) → (answer : Answer)
      → LeavesWith true false answer → IsVerdict job permitted answer (Ok (file_in ∷ []))
  file_verdict one permitted finds answer left_behind =
      let file = left_behind.1.0 in
      one_verdict job one answer file left_behind.0 left_behind.1.2
      (λ why fault. no_file_fault file left_behind.1.1 why
      (said_of (λ (p : Profile) (k : Kind). IsTreeFault p k file why) job.profile Plain job.kind
      empty_kind plain kind fault))
      (λ unread. said_of (λ (p : Profile) (k : Kind). NeedsArchive p k) job.profile Plain job.kind
      empty_kind plain kind unread.0)
      permitted file_in refl
      (record_of_file permitted file left_behind.1.1 (finds file left_behind.1.1))

-- the output's path has a hash part, which stands in no empty file
hash_long : length (hash_part_of (out_empty (codes "src"))) ≡ 32
unfolding store_path
hash_long = search (rules, hash_part_of_path, store, hash_part_of_fold, src_named, hash_part_len)

none_within : (part before after : List ℕ) → length part ≡ 32 → [] ≡ before ++ (part ++ after) → ⊥
none_within part before after long is =
    let sum : 0 ≡ length (before ++ (part ++ after)) = ap length is in
    omega (arith, sum, long, length-append before (part ++ after), length-append part after)

pub none_occurs : (part : List ℕ) → length part ≡ 32 → OccursIn part ([] ∷ []) → ⊥
none_occurs part long (k, bytes, low, is, within) = search (rules, none_within, one_of)

found_in_file : (tree : Tree) → IsEmptyFile tree → IsFound tree (out_empty (codes "src") ∷ []) []
found_in_file tree is =
    subst (λ (lists : List (List ℕ)). IsFoundIn lists (out_empty (codes "src") ∷ []) [])
    (sym is.1) (record {
      rising = tt;
      each = λ path. (
        λ none. absurd (Contains-nothing _ none),
        λ some. absurd (none_occurs _
            (subst (λ (p : List ℕ). length (hash_part_of p) ≡ 32) (one_of _ _ some.0)
            hash_long)
            some.1),
      );
    })

-- ---- the job of the second

module _ (job : Job) (is_job : IsJob three.graph 1 job) where
  second_node : is_job.node ≡ second_twin
  second_node = search (rules, same_element)

  second_one_output : length job.outputs.items ≡ 1
  second_one_output = search (rules, length-map, second_node)

  second_kind : job.kind ≡ empty_kind
  second_kind = one_kind second_twin.drv _ _
      (subst (λ (n : Node). HasKind n.drv job.kind) second_node is_job.kind)
      (kind_empty making_twin)

  pub second_verdict : (answer : Answer) → LeavesWith true false answer
      → IsVerdict job (out_empty (codes "src") ∷ []) answer (Ok (file_in ∷ []))
  second_verdict answer left_behind =
      file_verdict job is_job.profile second_kind second_one_output (out_empty (codes "src") ∷ [])
      found_in_file answer left_behind

-- ---- what a job leaves behind is what its derivation says

module _ (d : ℕ) (node : Node) (at : slice_get three.graph.nodes d ≡ Some node) (job : Job)
    (is_job : IsJob three.graph d job) (answer : Answer) where
  is_node : is_job.node ≡ node
  is_node = search (rules, same_element)

  args_are : map bytes_of job.args.items ≡ node.drv.args
  args_are = search (rules, is_node)

  builder_is : job.builder.items ≡ node.drv.builder
  builder_is = search (rules, is_node)

  leaves : may_leave_file job (Ok answer)
      → LeavesWith (list_any (same_bytes script) node.drv.args)
      (same_bytes node.drv.builder (codes "/bin/false")) answer
  leaves may = search (rules, builder_is, args_are)

  pub may_leave_by : LeavesWith (list_any (same_bytes script) node.drv.args)
      (same_bytes node.drv.builder (codes "/bin/false")) answer
      → may_leave_file job (Ok answer)
  may_leave_by left_behind = search (rules, args_are, builder_is)

-- ---- one outcome for each

tree_later : (answer : Answer) (tree : Tree) (n : ℕ)
    → answer.outputs.items ≡ Some (owned tree) ∷ [] → tree_at answer (suc n) ≡ None
tree_later answer tree n leaves = rw leaves refl

tree_none : (answer : Answer) (n : ℕ) → answer.outputs.items ≡ [] → tree_at answer n ≡ None
tree_none answer n none = rw none refl

left_none : (answer : Answer) (n : ℕ) → answer.outputs.items ≡ [] → left_at answer n ≡ None
left_none answer n none = rw none refl

owned_none : (answer : Answer) (n : ℕ) → answer.outputs.items ≡ [] → OthersMayWriteAt answer n → ⊥
owned_none answer n none (left, at, may) =
    let clash = sym (left_none answer n none) ∙ at in absurd cc

-- two answers with one tree each, of the same bytes
same_one : (x y : Answer) (a b : Tree) → x.status ≡ y.status
    → x.outputs.items ≡ Some (owned a) ∷ [] → y.outputs.items ≡ Some (owned b) ∷ []
    → HaveSameBytes a b → AreSameAnswers x y
same_one x y a b status at_x at_y same = record {
  status = status;
  trees = each;
  modes = λ n. (
    λ may. absurd (owned_one x a at_x n may),
    λ may. absurd (owned_one y b at_y n may),
  );
}
  where
    each : (n : ℕ) → AreSameTrees (tree_at x n) (tree_at y n)
    each zero = search (rules, tree_first)
    each (suc n) = search (rules, tree_later)

-- where a tree has one archive's tree at most, and another tree has that, the archive of the one is
-- the other's
archive_there : (node : ArchiveTree) (a b : Tree)
    → ((archived : ArchiveTree) → IsArchiveOf a archived → archived ≡ node) → IsArchiveOf b node
    → (text : List ℕ) → HasArchive a text → HasArchive b text
archive_there node a b only is text has =
    let same = only has.archived has.is_of in
    record {
      archived = node;
      archivable = subst IsArchivable same has.archivable;
      is_of = is;
      archive = has.archive ∙ ap nar same;
      sized = has.sized;
    }

first_is : (x y : List ℕ) → ◌≡◌ {A = List (List ℕ)} (x ∷ []) (y ∷ []) → x ≡ y
first_is x y same = cc

-- an empty file's archive is that of no bytes
archive_of_file : (tree : Tree) → IsEmptyFile tree → (archived : ArchiveTree)
    → IsArchiveOf tree archived → archived ≡ ArchiveFile false []
archive_of_file (File bytes) is archived of =
    of ∙ ap (ArchiveFile false) (first_is bytes.items [] is.1)
archive_of_file (Pieces parts) is archived of =
    of ∙ ap (ArchiveFile false) (first_is (joined parts.items) [] is.1)
archive_of_file (Executable parts) is archived of = absurd is.0
archive_of_file (Link target) is archived of = absurd is.0
archive_of_file (Dir' shape entries) is archived of = absurd is.0

file_has_archive : (tree : Tree) → IsEmptyFile tree → IsArchiveOf tree (ArchiveFile false [])
file_has_archive (File bytes) is = ap (ArchiveFile false) (sym (first_is bytes.items [] is.1))
file_has_archive (Pieces parts) is =
    ap (ArchiveFile false) (sym (first_is (joined parts.items) [] is.1))
file_has_archive (Executable parts) is = absurd is.0
file_has_archive (Link target) is = absurd is.0
file_has_archive (Dir' shape entries) is = absurd is.0

same_files : (a b : Tree) → IsEmptyFile a → IsEmptyFile b → HaveSameBytes a b
same_files a b is is' = record {
  bytes = is.1 ∙ sym is'.1;
  digest = λ algorithm. digest_of_file algorithm a is ∙ sym (digest_of_file algorithm b is');
  archive = λ text. (
    archive_there (ArchiveFile false []) a b (archive_of_file a is) (file_has_archive b is') text,
    archive_there (ArchiveFile false []) b a (archive_of_file b is') (file_has_archive a is) text,
  );
  fits = (λ fits. file_fits b is', λ fits. file_fits a is);
  flat = λ profile. (λ flat. flat_file profile b is', λ flat. flat_file profile a is);
}

-- an empty folder's archive has no entries
no_entries_of : {m : _} (row : Row_of-Member m) → pieces_among row ≡ [] → (within : Entries)
    → AreEntriesOf row within → within ≡ NoEntries
no_entries_of end_of-Member none within are = are
no_entries_of (more_of-Member name tree rest) none within are = absurd cc

has_no_entries : {m : _} (row : Row_of-Member m) → pieces_among row ≡ []
    → AreEntriesOf row NoEntries
has_no_entries end_of-Member none = refl
has_no_entries (more_of-Member name tree rest) none = absurd cc

archive_of_folder : (tree : Tree) → IsEmptyFolder tree → (archived : ArchiveTree)
    → IsArchiveOf tree archived → archived ≡ Folder NoEntries
archive_of_folder (File bytes) is archived of = absurd cc
archive_of_folder (Pieces parts) is archived of = absurd cc
archive_of_folder (Executable parts) is archived of = absurd cc
archive_of_folder (Link target) is archived of = absurd cc
archive_of_folder (Dir' shape row) is archived (within, of, are) =
    of ∙ ap Folder (no_entries_of row is within are)

folder_has_archive : (tree : Tree) → IsEmptyFolder tree → IsArchiveOf tree (Folder NoEntries)
folder_has_archive (File bytes) is = absurd cc
folder_has_archive (Pieces parts) is = absurd cc
folder_has_archive (Executable parts) is = absurd cc
folder_has_archive (Link target) is = absurd cc
folder_has_archive (Dir' shape row) is = (NoEntries, refl, has_no_entries row is)

-- and it is no file
no_flat_folder : (profile : Profile) (tree : Tree) → IsEmptyFolder tree → IsFlatFile profile tree
    → ⊥
no_flat_folder profile (File bytes) is flat = cc
no_flat_folder profile (Pieces parts) is flat = cc
no_flat_folder profile (Executable parts) is flat = cc
no_flat_folder profile (Link target) is flat = flat
no_flat_folder profile (Dir' shape entries) is flat = flat

same_folders : (a b : Tree) → IsEmptyFolder a → IsEmptyFolder b → HaveSameBytes a b
same_folders a b is is' = record {
  bytes = is ∙ sym is';
  digest = λ algorithm. empty_digest_of algorithm a is ∙ sym (empty_digest_of algorithm b is');
  archive = λ text. (
    archive_there (Folder NoEntries) a b (archive_of_folder a is) (folder_has_archive b is') text,
    archive_there (Folder NoEntries) b a (archive_of_folder b is') (folder_has_archive a is) text,
  );
  fits = (λ fits. empty_fits b is', λ fits. empty_fits a is);
  flat = λ profile. (
    λ flat. absurd (no_flat_folder profile a is flat),
    λ flat. absurd (no_flat_folder profile b is' flat),
  );
}

none_twice : (x y : Answer) → Leaves true x → Leaves true y → AreSameAnswers x y
none_twice x y one other = record {
  status = one.0 ∙ sym other.0;
  trees = each;
  modes = λ n. (
    λ may. absurd (owned_none x n one.1 may),
    λ may. absurd (owned_none y n other.1 may),
  );
}
  where
    each : (n : ℕ) → AreSameTrees (tree_at x n) (tree_at y n)
    each n = search (rules, tree_none)

file_twice : (x y : Answer) → LeavesWith true false x → LeavesWith true false y
    → AreSameAnswers x y
file_twice x y one other = search (rules, same_one, same_files)

folder_twice : (x y : Answer) → Leaves false x → Leaves false y → AreSameAnswers x y
folder_twice x y one other = search (rules, same_one, same_folders)

allows_one : AllowsOneOutcome may_leave_file three.graph
allows_one d job again (Err reason) y is is' may may' = absurd may
allows_one d job again (Ok x) (Err reason) is is' may may' = absurd may'
allows_one zero job again (Ok x) (Ok y) is is' may may' = search (rules, none_twice, leaves)
allows_one (suc zero) job again (Ok x) (Ok y) is is' may may' = search (rules, file_twice, leaves)
allows_one (suc (suc zero)) job again (Ok x) (Ok y) is is' may may' =
    folder_twice x y (leaves 2 right refl job is x may) (leaves 2 right refl again is' y may')
allows_one (suc (suc (suc d))) job again (Ok x) (Ok y) is is' may may' = search rules

pub three_outcome : HasOneOutcome may_leave_file three.graph
three_outcome = allowed_is_one may_leave_file three.graph allows_one

-- ---- a job and an answer for each

abbrev pub script_args : List (Vec ℕ Global)
script_args = vec_of (codes "-c") (omega arith) ∷ vec_of script (omega arith) ∷ []

pub first_job : Job
first_job = job_of failing_twin (omega arith) (omega arith) [] (omega arith)
    (out_empty (codes "src")) output_short empty_kind 0 [] (omega arith)

pub first_is_job : IsJob three.graph 0 first_job
unfolding first_job
first_is_job =
    is_job_of _ _ _ [] (omega arith)
    (out_empty (codes "src")) output_short empty_kind 0 [] (omega arith) three.graph first_twin
    refl refl refl refl refl refl refl (kind_empty failing_twin) refl

pub second_job : Job
second_job = job_of making_twin (omega arith) (omega arith) script_args (omega arith)
    (out_empty (codes "src")) output_short empty_kind 1 [] (omega arith)

pub second_is_job : IsJob three.graph 1 second_job
unfolding second_job
second_is_job =
    is_job_of _ _ _ _ _ _ _ _ 1 _ _ _ _ refl refl refl refl refl refl refl
    (kind_empty making_twin) refl

pub second_answer : Answer
second_answer = record {
  status = Some (pos 0);
  outputs = vec_of (Some (owned (File (vec_of [] (omega arith)))) ∷ []) (omega arith);
}

pub second_leaves : LeavesWith true false second_answer
unfolding second_answer
second_leaves = search (rules, vec_of)

pub first_may : may_leave_file first_job (Ok left_answer)
first_may = may_leave_by 0 first_twin refl first_job first_is_job left_answer left_leaves

pub second_may : may_leave_file second_job (Ok second_answer)
second_may = may_leave_by 1 second_twin refl second_job second_is_job second_answer second_leaves

pub third_may : may_leave_file (job_of_right 2) (Ok right_answer)
third_may = may_leave_by 2 right refl (job_of_right 2) (is_job_of_right _ 2 refl refl)
    right_answer right_leaves
