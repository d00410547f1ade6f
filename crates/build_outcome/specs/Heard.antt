-- Outputs that were heard event by event, and the verdict on them: that on trees in memory whose
-- archives they are.
use Rattle.std.specs.Prelude.{◌≡◌, ◌↔◌, ◌⊎◌, ◌≤◌, ◌^◌, ⊤, ℤ, Bool, IsTrue, Option, Some, None, List, Result, Ok, Err, length}
use Rattle.std.specs.List.{AllZip}
use Rattle.nix_archive.specs.Archive.{nar}
use Rattle.nix_archive.specs.Trees.{Tree as Archived}
use Rattle.nix_names.specs.Bytes.{Path}
use Rattle.nix_names.specs.Digests.{algorithm_of}
use Rattle.nix_names.specs.declared.digest.Algorithm.{Algorithm}
use Rattle.nix_names.specs.declared.digest.Algorithm.TheVariants.{Sha256}
use Rattle.nix_names.specs.declared.digest.Digest.{Digest}
use Rattle.nix_names.specs.declared.method.Method.TheVariants.{Flat, Recursive}
use Rattle.drv_graph.specs.declared.kinds.Kind.{Kind}
use Rattle.drv_graph.specs.declared.kinds.Kind.TheVariants.{Addressed, Fixed}
use Rattle.drv_graph.specs.declared.profile.Profile.{Profile}
use Rattle.drv_graph.specs.declared.profile.Profile.TheVariants.{Nix, Plain}
use Rattle.ref_scan.specs.Archives.{IsArchiveOf}
use Rattle.ref_scan.specs.ArchivedTrees.{HasTree, KeepsLimits}
use Rattle.ref_scan.specs.Scan.{IsFound}
use Rattle.ref_scan.specs.declared.tree.Tree.{Tree}
use Rattle.valid_table.specs.PathInfos.{PathInfo}
use Rattle.build_outcome.specs.Sums.{IsOutputSum}
use Rattle.build_outcome.specs.Verdicts.{IsExamining, IsFlatFile, MayBeTaken, NeedsArchive, file_digest_of}
use Rattle.build_outcome.specs.declared.job.Answer.{Answer}
use Rattle.build_outcome.specs.declared.job.Job.{Job}
use Rattle.build_outcome.specs.declared.job.LeftOutput.{LeftOutput}
use Rattle.build_outcome.specs.declared.reason.Reason.{Reason}
use Rattle.build_outcome.specs.declared.reason.Reason.TheVariants.{OutOfMemory, ReadFault, TooLarge}
use Rattle.build_outcome.specs.declared.sums.OutputSum.{OutputSum}

-- What lies at an output: its tree, as an archive has it, and whether its group or others may write
-- it.
pub record LeftArchive : Type 0 where
  pub tree : Archived
  pub others_may_write : Bool

-- the tree in memory of what lies at an output
abbrev pub IsLeftAs : Option LeftArchive → Option LeftOutput → Type 0
IsLeftAs None None = ⊤
IsLeftAs (Some left) (Some output) =
    IsArchiveOf output.tree left.tree × (output.others_may_write ≡ left.others_may_write)
IsLeftAs left output = ⊥

-- the trees in memory of what lies at the outputs, in order
abbrev pub AreLeftAs : List (Option LeftArchive) → List (Option LeftOutput) → Type 0
AreLeftAs lefts outputs = AllZip IsLeftAs lefts outputs

-- An answer with this exit status and, at the outputs, trees in memory of what lies there.
pub record IsAnswerOf (status : Option ℤ) (lefts : List (Option LeftArchive)) (answer : Answer)
    : Type 0 where
  pub ended : answer.status ≡ status
  pub left : AreLeftAs lefts answer.outputs.items

-- The verdict on what lies at the outputs. There is an answer of which it tells, and it is the
-- verdict on each such answer.
pub record IsExaminedOf (job : Job) (permitted : List Path) (status : Option ℤ)
    (lefts : List (Option LeftArchive)) (result : Result (List PathInfo) Reason) : Type 0 where
  pub answer : Answer
  pub is_of : IsAnswerOf status lefts answer
  pub each : (other : Answer) → IsAnswerOf status lefts other
      → IsExamining job permitted other result

-- ---- what is kept of an output that was heard

-- the algorithm by which the bytes of a file at an output of a kind are hashed, if they are
abbrev pub file_algorithm : Profile → Kind → Option Algorithm
file_algorithm profile (Fixed Flat declared) = Some (algorithm_of declared)
file_algorithm profile (Fixed Recursive declared) = None
file_algorithm Plain Addressed = Some Sha256
file_algorithm Nix Addressed = None

-- What is kept of an output: the paths that were found in it; whether it is a file whose bytes may
-- be those of a fixed output; the digest of its bytes and the sum of its archive, where they are
-- asked for; and whether its group or others may write it.
pub record Kept : Type 0 where
  pub references : List Path
  pub is_flat_file : Bool
  pub digest : Option Digest
  pub sum : Option OutputSum
  pub others_may_write : Bool

-- the sum of a tree's archive is kept, unless archives aren't asked for
abbrev pub IsSumKept : Job → Tree → Option OutputSum → Type 0
IsSumKept job tree None = NeedsArchive job.profile job.kind → ⊥
IsSumKept job tree (Some sum) = IsOutputSum job.kind tree sum

-- What is kept tells this of a tree in memory.
pub record IsKeptOf (job : Job) (permitted : List Path) (tree : Tree) (kept : Kept) : Type 0 where
  pub found : IsFound tree permitted kept.references
  pub taken : MayBeTaken job.profile tree
  pub flat : IsTrue kept.is_flat_file ↔ IsFlatFile job.profile tree
  pub digest : (algorithm : Algorithm) → file_algorithm job.profile job.kind ≡ Some algorithm
      → kept.digest ≡ file_digest_of algorithm tree
  pub sum : IsSumKept job tree kept.sum

-- What is kept of an output's tree, as an archive has it: there is a tree in memory of that archive,
-- and what is kept tells the same of each.
pub record IsHeardOutput (job : Job) (permitted : List Path) (archived : Archived)
    (others_may_write : Bool) (kept : Kept) : Type 0 where
  pub has_tree : HasTree archived
  pub tells : (tree : Tree) → IsArchiveOf tree archived → IsKeptOf job permitted tree kept
  pub others : kept.others_may_write ≡ others_may_write

-- why nothing is kept of an output: memory was refused; or its archive is asked for, and has 2^63
-- bytes or more; or it passes the limits, which only `plain` has
abbrev pub IsNotKept : Job → Archived → Reason → Type 0
IsNotKept job archived why = (why ≡ OutOfMemory)
    ⊎ ((why ≡ ReadFault) × NeedsArchive job.profile job.kind × (2 ^ 63 ≤ length (nar archived)))
    ⊎ ((why ≡ TooLarge) × (job.profile ≡ Plain) × (KeepsLimits archived → ⊥))

-- what is kept of what lies at an output, or nothing where nothing lies there
abbrev pub IsHeardAs : Job → (permitted : List Path) → Option LeftArchive → Option Kept → Type 0
IsHeardAs job permitted None None = ⊤
IsHeardAs job permitted (Some left) (Some kept) =
    IsHeardOutput job permitted left.tree left.others_may_write kept
IsHeardAs job permitted left kept = ⊥

-- what is kept of what lies at the outputs, in order
abbrev pub AreHeard : Job → (permitted : List Path) → List (Option LeftArchive)
    → List (Option Kept) → Type 0
AreHeard job permitted lefts kept = AllZip (IsHeardAs job permitted) lefts kept

-- ---- builders whose outputs are examined

-- the verdict on an outcome: that on its answer, or the reason why there is none
abbrev pub IsExaminedOutcome : Job → (permitted : List Path) → Result Answer Reason
    → Result (Result (List PathInfo) Reason) Reason → Type 0
IsExaminedOutcome job permitted (Ok answer) (Ok verdict) =
    IsExamining job permitted answer verdict
IsExaminedOutcome job permitted (Err why) (Err told) = told ≡ why
IsExaminedOutcome job permitted outcome examined = ⊥

-- what comes of a job that is run and examined: the verdict on an answer that may be given, or why
-- there is none
abbrev pub IsRunExamined : (may : Job → Result Answer Reason → Type 0) → Job
    → (permitted : List Path) → Result (Result (List PathInfo) Reason) Reason → Type 0
IsRunExamined may job permitted (Ok verdict) =
    (answer : Answer) × may job (Ok answer) × IsExamining job permitted answer verdict
IsRunExamined may job permitted (Err why) = (why ≡ OutOfMemory) ⊎ may job (Err why)
