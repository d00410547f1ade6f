-- *Builder*: how a job may end, and what a run makes of it (Nix manual, "Building"; Dolstra's
-- thesis, section 5.5.1; the relation is this product's own).
use Rattle.std.specs.Prelude.{◌≡◌, ◌⊎◌, ℕ, Some, List, Result, Ok, Err, IfOk, slice_get}
use Rattle.nix_names.specs.Bytes.{Path}
use Rattle.drv_graph.specs.Nodes.{Node}
use Rattle.valid_table.specs.Entries.{registered}
use Rattle.valid_table.specs.PathInfos.{PathInfo}
use Rattle.valid_table.specs.declared.entry.Entry.{Entry}
use Rattle.valid_table.specs.declared.entry.Registration.{Registration}
use Rattle.sched_core.specs.Books.{ArePermittedPaths}
use Rattle.run_states.specs.Runs.{opened}
use Rattle.build_outcome.specs.Jobs.{IsJob}
use Rattle.run_states.specs.Legal.{IsEntryOf, begun, ended, failed}
use Rattle.run_states.specs.Runs.{History, Run}
use Rattle.build_outcome.specs.Checks.{IsTestedVerdict}
use Rattle.build_outcome.specs.declared.job.Answer.{Answer}
use Rattle.build_outcome.specs.declared.job.Job.{Job}
use Rattle.build_outcome.specs.declared.reason.Reason.{Reason}
use Rattle.build_outcome.specs.declared.reason.Reason.TheVariants.{OutOfMemory}

-- *Verdict* on an outcome by the paths that are valid and those that are permitted: the reason why
-- there is no answer, or the verdict on the answer, with the tests of its outputs
abbrev pub IsVerdictOn : List Registration → Job → (permitted : List Path) → Result Answer Reason
    → Result (List PathInfo) Reason → Type 0
IsVerdictOn registrations job permitted (Ok answer) verdict =
    IsTestedVerdict registrations job permitted answer verdict
IsVerdictOn registrations job permitted (Err reason) verdict = verdict ≡ Err reason

-- *Verdict* on an outcome after some entries: the verdict by the paths that are permitted there.
-- Only an answer needs the permitted paths.
abbrev pub IsOutcomeVerdict : List Entry → Job → Result Answer Reason
    → Result (List PathInfo) Reason → Type 0
IsOutcomeVerdict entries job outcome verdict = (permitted : List Path)
    × IfOk outcome (λ answer. ArePermittedPaths entries job permitted)
    × IsVerdictOn (registered entries) job permitted outcome verdict

-- how a job may end after some entries: with the verdict on an outcome that may be given for it
abbrev pub MayEndAs : (may : Job → Result Answer Reason → Type 0) → List Entry → Job
    → Result (List PathInfo) Reason → Type 0
MayEndAs may entries job verdict = (outcome : Result Answer Reason) × may job outcome
    × IsOutcomeVerdict entries job outcome verdict

-- The verdict with which building a derivation may end after some entries: that of its job there.
pub record IsVerdictAfter (may : Job → Result Answer Reason → Type 0) (run : Run)
    (entries : List Entry) (d : ℕ) (verdict : Result (List PathInfo) Reason)
    : Type 0 where
  pub job : Job
  pub is_job : IsJob run.graph d job
  pub ends_as : MayEndAs may entries job verdict

-- *Answered*: each `Done` has the records, and each `Fail` the reason, of a verdict on what a
-- builder may give after the entries before it. A `Fail` because memory was refused is the
-- exception.
pub data IsAnswered (may : Job → Result Answer Reason → Type 0) (run : Run) : History → Type 0 where
  answered_opening : (entries : List Entry) → IsAnswered may run (opened entries)
  answered_begin : (history : History) (d : ℕ) → IsAnswered may run history
      → IsAnswered may run (begun history d)
  answered_done : (history : History) (d lease : ℕ) (node : Node) (infos : List PathInfo)
      (entry : Entry) → IsAnswered may run history
      → slice_get run.graph.nodes d ≡ Some node
      → IsVerdictAfter may run history.entries d (Ok infos) → IsEntryOf node infos entry
      → IsAnswered may run (ended history d lease entry)
  answered_fail : (history : History) (d lease : ℕ) (reason : Reason) → IsAnswered may run history
      → (reason ≡ OutOfMemory) ⊎ IsVerdictAfter may run history.entries d (Err reason)
      → IsAnswered may run (failed history d lease reason)
