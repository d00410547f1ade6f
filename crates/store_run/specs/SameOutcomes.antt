-- *Same outcomes*: where builders may give one outcome to each derivation, trees of the same bytes
-- counting as one, the verdicts are one (this product's own).
use Rattle.std.specs.Prelude.{◌≡◌, ◌↔◌, ℕ, Option, Some, None, Result, Ok, Err}
use Rattle.nix_names.specs.Bytes.{Bytes}
use Rattle.nix_names.specs.declared.digest.Algorithm.{Algorithm}
use Rattle.drv_graph.specs.Plans.{Graph}
use Rattle.drv_graph.specs.declared.profile.Profile.{Profile}
use Rattle.ref_scan.specs.Trees.{Fits, pieces}
use Rattle.ref_scan.specs.declared.tree.Tree.{Tree}
use Rattle.build_outcome.specs.Jobs.{IsJob}
use Rattle.build_outcome.specs.Verdicts.{HasArchive, IsFlatFile, OthersMayWriteAt, file_digest_of, tree_at}
use Rattle.build_outcome.specs.declared.job.Answer.{Answer}
use Rattle.build_outcome.specs.declared.job.Job.{Job}
use Rattle.build_outcome.specs.declared.reason.Reason.{Reason}
use Rattle.store_run.specs.Scheduling.{HasOneOutcome}

-- Two trees have the same bytes in their files and names, the same digest by each algorithm, and
-- the same archive (NAR), or neither has one. Both keep the limits, or neither does; and under each
-- profile both may be an output that is fixed by a file's digest, or neither may.
pub record HaveSameBytes (tree other : Tree) : Type 0 where
  pub bytes : pieces tree ≡ pieces other
  pub digest : (algorithm : Algorithm)
      → file_digest_of algorithm tree ≡ file_digest_of algorithm other
  pub archive : (text : Bytes) → HasArchive tree text ↔ HasArchive other text
  pub fits : Fits tree ↔ Fits other
  pub flat : (profile : Profile) → IsFlatFile profile tree ↔ IsFlatFile profile other

-- what lies at an output twice: two trees with the same bytes, or no tree either time
abbrev pub AreSameTrees : Option Tree → Option Tree → Type 0
AreSameTrees None None = Unit {0}
AreSameTrees (Some tree) (Some other) = HaveSameBytes tree other
AreSameTrees None (Some other) = ⊥
AreSameTrees (Some tree) None = ⊥

-- Two answers are the same, trees of the same bytes counting as one. At each output others than its
-- owner may write what lies there by both, or by neither.
pub record AreSameAnswers (answer other : Answer) : Type 0 where
  pub status : answer.status ≡ other.status
  pub trees : (n : ℕ) → AreSameTrees (tree_at answer n) (tree_at other n)
  pub modes : (n : ℕ) → OthersMayWriteAt answer n ↔ OthersMayWriteAt other n

-- two outcomes are the same: two answers that are, or one reason
abbrev pub AreSameOutcomes : Result Answer Reason → Result Answer Reason → Type 0
AreSameOutcomes (Ok answer) (Ok other) = AreSameAnswers answer other
AreSameOutcomes (Err reason) (Err other) = reason ≡ other
AreSameOutcomes (Ok answer) (Err other) = ⊥
AreSameOutcomes (Err reason) (Ok other) = ⊥

-- any two outcomes that may be given to one derivation of a plan are the same
abbrev pub AllowsOneOutcome : (may : Job → Result Answer Reason → Type 0) → Graph → Type 0
AllowsOneOutcome may graph = (d : ℕ) (job again : Job) (x y : Result Answer Reason)
    → IsJob graph d job → IsJob graph d again → may job x → may again y → AreSameOutcomes x y

-- where builders may give one outcome to each derivation of a plan, the verdicts are one
abbrev pub AllowedIsOne : (may : Job → Result Answer Reason → Type 0) → Type 0
AllowedIsOne may = (graph : Graph) → AllowsOneOutcome may graph → HasOneOutcome may graph
