-- What the verdict on a job gives: what a Done of its derivation may register.
use Rattle.std.specs.Prelude.{◌≡◌, ℕ, Some, Ok, List, Contains, slice_get}
use Rattle.nix_names.specs.Bytes.{Path}
use Rattle.drv_graph.specs.Nodes.{Node}
use Rattle.drv_graph.specs.Plans.{Graph}
use Rattle.valid_table.specs.PathInfos.{PathInfo}
use Rattle.valid_table.specs.declared.entry.Entry.{Entry}
use Rattle.sched_core.specs.Books.{ArePermittedPaths, MayAllRefer}
use Rattle.build_outcome.specs.Jobs.{IsJob}
use Rattle.run_states.specs.Legal.{AreAcyclicRecords}
use Rattle.build_outcome.specs.Verdicts.{IsVerdict}
use Rattle.build_outcome.specs.declared.job.Answer.{Answer}
use Rattle.build_outcome.specs.declared.job.Job.{Job}

-- Records of a derivation's outputs, without a cycle, and with permitted references alone.
pub record AreRegistrable (node : Node) (permitted : List Path) (infos : List PathInfo)
    : Type 0 where
  pub records : AreAcyclicRecords node.drv infos
  pub among : (info : PathInfo) (path : Path) → Contains infos info
      → Contains info.references path → Contains permitted path

-- the records of a verdict on a derivation's job may be registered
abbrev pub VerdictsAreRegistrable : Type 0
VerdictsAreRegistrable = (graph : Graph) (d : ℕ) (job : Job) (node : Node)
    (permitted : List Path) (answer : Answer) (infos : List PathInfo)
    → IsJob graph d job → slice_get graph.nodes d ≡ Some node
    → IsVerdict job permitted answer (Ok infos) → AreRegistrable node permitted infos

-- each reference in the records of a verdict is permitted to the job after some entries, where the
-- verdict was found by the paths that are permitted there
abbrev pub VerdictsMayRefer : Type 0
VerdictsMayRefer = (entries : List Entry) (job : Job) (permitted : List Path) (answer : Answer)
    (infos : List PathInfo) → ArePermittedPaths entries job permitted
    → IsVerdict job permitted answer (Ok infos) → MayAllRefer entries job infos
