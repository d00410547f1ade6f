-- What is known of what lies at outputs, and what a verdict on it may go by.
use Rattle.std.specs.Prelude.{◌≡◌, ⊤, MatchOption, Option, Some, None, List, pos}
use Rattle.std.specs.Borrow.{Bor}
use Rattle.std.specs.List.{AllZip}
use Rattle.nix_names.specs.Bytes.{Path}
use Rattle.ref_scan.specs.declared.tree.Tree.{Tree}
use Rattle.build_outcome.specs.Heard.{IsKeptOf, Kept}
use Rattle.build_outcome.specs.Sums.{IsOutputSum}
use Rattle.build_outcome.specs.Verdicts.{AreRead, IsTreeFault, NeedsArchive}
use Rattle.build_outcome.specs.private.Summing.{AreSums}
use Rattle.build_outcome.specs.declared.job.Answer.{Answer}
use Rattle.build_outcome.specs.declared.job.Job.{Job}
use Rattle.build_outcome.specs.declared.job.LeftOutput.{LeftOutput}
use Rattle.build_outcome.specs.declared.known_outputs.Known.{Known}
use Rattle.build_outcome.specs.declared.known_outputs.Known.TheVariants.{Tree as OfTree, Heard as OfHeard}
use Rattle.build_outcome.specs.declared.known_outputs.Outputs.{Outputs}
use Rattle.build_outcome.specs.declared.known_outputs.Outputs.TheVariants.{Trees, Heard}
use Rattle.build_outcome.specs.declared.reason.Reason.{Reason}
use Rattle.build_outcome.specs.declared.sums.OutputSum.{OutputSum}

-- the sum of a tree's archive is given, unless archives aren't asked for
abbrev pub IsSumGiven : Job → Tree → Option (Bor OutputSum) → Type 0
IsSumGiven job tree sum = MatchOption sum (NeedsArchive job.profile job.kind → ⊥)
    (λ given. IsOutputSum job.kind tree given.now)

-- what is known of what lies at an output is so
abbrev pub IsKnown : Job → (permitted : List Path) → LeftOutput → Known → Type 0
IsKnown job permitted output (OfTree left sum) =
    (left.now ≡ output) × IsSumGiven job output.tree sum
IsKnown job permitted output (OfHeard kept) =
    IsKeptOf job permitted output.tree kept.now
    × (kept.now.others_may_write ≡ output.others_may_write)

-- what was kept of what lies at an output is so
abbrev pub IsKeptAt : Job → (permitted : List Path) → Option LeftOutput → Option Kept → Type 0
IsKeptAt job permitted None None = ⊤
IsKeptAt job permitted (Some output) (Some kept) =
    IsKeptOf job permitted output.tree kept × (kept.others_may_write ≡ output.others_may_write)
IsKeptAt job permitted output kept = ⊥

-- what was kept of what lies at the outputs is so, in order
abbrev pub AreKept : Job → (permitted : List Path) → List (Option LeftOutput)
    → List (Option Kept) → Type 0
AreKept job permitted outputs kept = AllZip (IsKeptAt job permitted) outputs kept

-- what is known of what an answer has at the outputs is so
abbrev pub AreKnown : Job → (permitted : List Path) → Answer → Outputs → Type 0
AreKnown job permitted answer (Trees left sums) =
    (left.now ≡ answer) × AreSums job answer sums.now
AreKnown job permitted answer (Heard kept) =
    AreKept job permitted answer.outputs.items kept.now

-- The builder ended well, and what it left is read, and known.
pub record IsReadAs (job : Job) (permitted : List Path) (answer : Answer) (outputs : Outputs)
    : Type 0 where
  pub known : AreKnown job permitted answer outputs
  pub ended : answer.status ≡ Some (pos 0)
  pub read : AreRead job answer

-- a tree is taken as an output of a job
abbrev pub IsTreeTaken : Job → Tree → Type 0
IsTreeTaken job tree = (why : Reason) → IsTreeFault job.profile job.kind tree why → ⊥
