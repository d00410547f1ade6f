-- What is told of the archives of outputs.
use Rattle.std.specs.Prelude.{◌≡◌, ◌<◌, ℕ, List, Option, Some, None, length, slice_get}
use Rattle.drv_graph.specs.declared.kinds.Kind.{Kind}
use Rattle.ref_scan.specs.declared.tree.Tree.{Tree}
use Rattle.valid_table.specs.PathInfos.{NarInfo}
use Rattle.build_outcome.specs.declared.job.Answer.{Answer}
use Rattle.build_outcome.specs.declared.job.Job.{Job}
use Rattle.build_outcome.specs.declared.sums.OutputSum.{OutputSum}
use Rattle.build_outcome.specs.Sums.{IsOutputSum}
use Rattle.build_outcome.specs.Verdicts.{HasArchive, HasNoArchive, IsNarOf, NeedsArchive, tree_at}

-- what is told of a tree's archive: its sum, or that there is none
abbrev pub TellsSum : Kind → Tree → Option OutputSum → Type 0
TellsSum kind tree None = HasNoArchive tree
TellsSum kind tree (Some sum) = IsOutputSum kind tree sum

-- what is told of a tree's archive: its SHA-256 and length, or that there is none
abbrev pub TellsNar : Tree → Option NarInfo → Type 0
TellsNar tree None = HasNoArchive tree
TellsNar tree (Some sum) = IsNarOf tree sum

-- what is told of what lies at an output: its sum, or that nothing lies there
abbrev pub IsSumAt : Job → Answer → ℕ → Option OutputSum → Type 0
IsSumAt job answer n None = tree_at answer n ≡ None
IsSumAt job answer n (Some sum) = (tree : Tree) × (tree_at answer n ≡ Some tree)
    × IsOutputSum job.kind tree sum

-- The sums of the first `count` outputs, where archives are asked for.
pub record AreSumsSoFar (job : Job) (answer : Answer) (sums : List (Option OutputSum)) (count : ℕ)
    : Type 0 where
  pub each : (n : ℕ) (sum : OutputSum) (tree : Tree) → slice_get sums n ≡ Some (Some sum)
      → tree_at answer n ≡ Some tree → IsOutputSum job.kind tree sum
  pub whole : NeedsArchive job.profile job.kind → (n : ℕ) (tree : Tree) → n < count
      → tree_at answer n ≡ Some tree
      → (sum : OutputSum) × (slice_get sums n ≡ Some (Some sum))

-- the sums of a job's outputs
abbrev pub AreSums : Job → Answer → List (Option OutputSum) → Type 0
AreSums job answer sums = AreSumsSoFar job answer sums (length job.outputs.items)
