-- *Book*: what a run keeps, and what each call on it does (this product's own).
use Rattle.std.specs.Prelude.{◌≡◌, ◌++◌, ◌⊎◌, ℕ, Option, Some, List, [], ◌∷◌, slice_get, All, Contains}
use Rattle.nix_names.specs.Bytes.{Path}
use Rattle.drv_graph.specs.Nodes.{Node}
use Rattle.drv_graph.specs.Plans.{Graph}
use Rattle.valid_table.specs.Entries.{registered}
use Rattle.valid_table.specs.PathInfos.{PathInfo}
use Rattle.valid_table.specs.Valid.{IsValid}
use Rattle.valid_table.specs.declared.entry.Entry.{Entry}
use Rattle.build_outcome.specs.Jobs.{IsJob}
use Rattle.run_states.specs.Legal.{AreNewOutputs, AreOutputRecords, ArePermitted, IsAllowed, IsEntryOf, MayRefer, begins, begun, ended, failed}
use Rattle.run_states.specs.Runs.{History, Run}
use Rattle.run_states.specs.States.{Begun, phase_of}
use Rattle.build_outcome.specs.Verdicts.{outputs_of}
use Rattle.run_states.specs.declared.fault.BookFault.{BookFault}
use Rattle.run_states.specs.declared.fault.BookFault.TheVariants.{NoMemory, NoView, ForeignLease, NotLawful}
use Rattle.build_outcome.specs.declared.job.Job.{Job}
use Rattle.build_outcome.specs.declared.reason.Reason.{Reason}
use Rattle.run_states.specs.StateTables.{CanBegin}

-- A book, as contracts see it: a run, its history, the entries that the outlet shows, and those
-- that wait there to be published.
pub record Ledger : Type 0 where
  pub run : Run
  pub history : History
  pub shown : List Entry
  pub pending : List Entry

-- A lease, as contracts see it: its job, its number, and what the outlet told when it was given,
-- until that is handed out.
pub record Leased (Told : Type 0) : Type 0 where
  pub job : Job
  pub number : ℕ
  pub told : Option Told

-- A lease is the book's: its derivation has begun under its number and not ended, and its job is
-- that derivation's.
pub record IsBooksLease (run : Run) (history : History) (job : Job) (number : ℕ) : Type 0 where
  pub building : phase_of history.events job.derivation ≡ Begun number
  pub is_job : IsJob run.graph job.derivation job

-- each path that a job is built from is valid by some entries
abbrev pub AreSeedsValid : List Entry → Job → Type 0
AreSeedsValid entries job = All (IsValid (registered entries)) job.seeds.items

-- each path that a building derivation is built from is valid by some entries
abbrev pub BuildsOver : Run → History → List Entry → Type 0
BuildsOver run history entries = (job : Job) (number : ℕ) → IsBooksLease run history job number
    → AreSeedsValid entries job

-- each reference in some records is permitted to a job after some entries
abbrev pub MayAllRefer : List Entry → Job → List PathInfo → Type 0
MayAllRefer entries job infos = (info : PathInfo) (path : Path) → Contains infos info
    → Contains info.references path
    → MayRefer (registered entries) job.seeds.items (outputs_of job) path

-- these are the paths that are permitted to a job after some entries
abbrev pub ArePermittedPaths : List Entry → Job → (permitted : List Path) → Type 0
ArePermittedPaths entries job permitted = ArePermitted (registered entries) job.seeds.items
    (outputs_of job) permitted

-- An entry is that of a derivation with these records, which is allowed after some entries.
pub record IsDone (run : Run) (entries : List Entry) (d : ℕ) (infos : List PathInfo)
    (entry : Entry) : Type 0 where
  pub node : Node
  pub is_node : slice_get run.graph.nodes d ≡ Some node
  pub allowed : IsAllowed run.graph entries node infos
  pub is_entry : IsEntryOf node infos entry

-- a derivation may not be registered with these records after some entries
abbrev pub IsNotAllowed : Graph → List Entry → (d : ℕ) → List PathInfo → Type 0
IsNotAllowed graph entries d infos = (node : Node) → slice_get graph.nodes d ≡ Some node
    → IsAllowed graph entries node infos → ⊥

-- these are records of a derivation's outputs, and none of those is valid after some entries
abbrev pub AreNewRecords : Graph → List Entry → (d : ℕ) → List PathInfo → Type 0
AreNewRecords graph entries d infos = (node : Node) → slice_get graph.nodes d ≡ Some node
    → AreOutputRecords node.drv infos × AreNewOutputs entries node.drv

-- the outlet shows all entries, and none waits
abbrev pub IsPublished : (before after : Ledger) → Type 0
IsPublished before after =
    (after.shown ≡ before.shown ++ before.pending) × (after.pending ≡ [])

-- All that waited may have been published, and nothing else changed.
pub record IsSameRun (before after : Ledger) : Type 0 where
  pub run : after.run ≡ before.run
  pub history : after.history ≡ before.history
  pub outlet : ((after.shown ≡ before.shown) × (after.pending ≡ before.pending))
      ⊎ IsPublished before after

-- A derivation that could be begun has begun under a lease; before that all entries were published.
pub record IsBeginning (before after : Ledger) (job : Job) (number : ℕ) : Type 0 where
  pub can : CanBegin before.run before.history job.derivation
  pub numbered : number ≡ begins before.history.events
  pub is_job : IsJob before.run.graph job.derivation job
  pub run : after.run ≡ before.run
  pub history : after.history ≡ begun before.history job.derivation
  pub shown : after.shown ≡ before.history.entries
  pub pending : after.pending ≡ []

-- The outputs of a lease's derivation were registered with these records, by an entry that waits to
-- be published.
pub record IsFinishing (before after : Ledger) (job : Job) (number : ℕ) (infos : List PathInfo)
    : Type 0 where
  pub lease : IsBooksLease before.run before.history job number
  pub entry : Entry
  pub done : IsDone before.run before.history.entries job.derivation infos entry
  pub run : after.run ≡ before.run
  pub history : after.history ≡ ended before.history job.derivation number entry
  pub shown : after.shown ≡ before.shown
  pub pending : after.pending ≡ before.pending ++ entry ∷ []

-- why the outputs of a lease's derivation weren't registered with these records
abbrev pub IsFinishFault : Ledger → Job → (number : ℕ) → List PathInfo → BookFault → Type 0
IsFinishFault before job number infos ForeignLease =
    IsBooksLease before.run before.history job number → ⊥
IsFinishFault before job number infos NotLawful =
    IsBooksLease before.run before.history job number
    × IsNotAllowed before.run.graph before.history.entries job.derivation infos
IsFinishFault before job number infos NoMemory =
    IsBooksLease before.run before.history job number
    × AreNewRecords before.run.graph before.history.entries job.derivation infos
IsFinishFault before job number infos NoView = ⊥

-- A lease's derivation failed, for a reason.
pub record IsFailing (before after : Ledger) (job : Job) (number : ℕ) (reason : Reason)
    : Type 0 where
  pub lease : IsBooksLease before.run before.history job number
  pub run : after.run ≡ before.run
  pub history : after.history ≡ failed before.history job.derivation number reason
  pub shown : after.shown ≡ before.shown
  pub pending : after.pending ≡ before.pending
