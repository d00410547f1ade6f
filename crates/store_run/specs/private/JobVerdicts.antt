-- What a worker finds of the job of its lease, by a list of entries that its reader sees (this
-- product's own).
use Rattle.std.specs.Prelude.{◌≡◌, ◌⊎◌, ℕ, All, Some, List, [], Result, Ok, Err, MatchOption, slice_get}
use Rattle.nix_names.specs.Bytes.{Path}
use Rattle.nix_names.specs.Rising.{IsRising}
use Rattle.valid_table.specs.Entries.{paths_registered, registered}
use Rattle.valid_table.specs.PathInfos.{PathInfo}
use Rattle.valid_table.specs.Valid.{IsValid}
use Rattle.valid_table.specs.declared.entry.Entry.{Entry}
use Rattle.valid_view.specs.Answers.{Knowing}
use Rattle.valid_view.specs.Shown.{IsShowable}
use Rattle.valid_view.specs.declared.fault.ViewFault.{ViewFault}
use Rattle.valid_view.specs.declared.fault.ViewFault.TheVariants as view
use Rattle.sched_core.specs.Books.{ArePermittedPaths, AreSeedsValid, IsBooksLease, Leased, Ledger}
use Rattle.run_states.specs.declared.fault.BookFault.{BookFault}
use Rattle.run_states.specs.declared.fault.BookFault.TheVariants.{NoMemory, NoView}
use Rattle.build_outcome.specs.Checks.{IsClosureOf, NeedsClosure, ReachAlike}
use Rattle.build_outcome.specs.Verdicts.{outputs_of}
use Rattle.build_outcome.specs.declared.checks.closure.OutputClosure.{OutputClosure}
use Rattle.build_outcome.specs.declared.job.Answer.{Answer}
use Rattle.build_outcome.specs.declared.job.Job.{Job}
use Rattle.build_outcome.specs.declared.reason.Reason.{Reason}
use Rattle.build_outcome.specs.declared.reason.Reason.TheVariants.{OutOfMemory}
use Rattle.store_run.specs.Builders.{IsOutcomeVerdict}
use Rattle.store_run.specs.declared.job_verdict.JobVerdict.{JobVerdict}
use Rattle.store_run.specs.declared.job_verdict.JobVerdict.TheVariants.{Examined, Unanswered, Refused}

-- each of some paths is valid by the list that a reader was told of, or by the one that it saw
abbrev pub AreKnownValid : Knowing → List Path → Type 0
AreKnownValid known paths = All (IsValid (registered known.told)) paths
    ⊎ All (IsValid (registered known.seen)) paths

-- nothing is given of the closure of the output with this number, which isn't asked for
pub record IsLeftOut (job : Job) (n : ℕ) (closure : OutputClosure) : Type 0 where
  pub unasked : NeedsClosure job n → ⊥
  pub paths : closure.paths.items ≡ []
  pub records : closure.records.items ≡ []

-- The closure of the output with this number, at `own`, by some entries, with records in order.
pub record IsTaken (entries : List Entry) (job : Job) (infos : List PathInfo) (n : ℕ) (own : Path)
    (closure : OutputClosure) : Type 0 where
  pub closure_of : IsClosureOf (registered entries) job infos n own closure
  pub rising : IsRising (paths_registered closure.records.items)

-- what is given of the closure of the output with this number, by some entries
abbrev pub IsClosureAt : List Entry → Job → List PathInfo → ℕ → OutputClosure → Type 0
IsClosureAt entries job infos n closure = IsLeftOut job n closure
    ⊎ ((own : Path) × (slice_get (outputs_of job) n ≡ Some own)
    × IsTaken entries job infos n own closure)

-- this is given of the closures of a job's first outputs, by some entries
abbrev pub AreClosures : List Entry → Job → List PathInfo → List OutputClosure → Type 0
AreClosures entries job infos closures = (n : ℕ) (closure : OutputClosure)
    → slice_get closures n ≡ Some closure → IsClosureAt entries job infos n closure

-- a lease was told of a list by which all that its job is built from is valid
abbrev pub IsToldOfSeeds : {Told : Type 0} → (names : Told → List Entry → Type 0) → Leased Told
    → Type 0
IsToldOfSeeds names lease = MatchOption lease.told ⊥
    (λ told. (entries : List Entry) × names told entries × AreSeedsValid entries lease.job)

-- The verdict on an answer by a list that a view may show, in which all that the job is built from
-- is valid.
pub record IsSeenVerdict (seen : List Entry) (job : Job) (answer : Answer)
    (verdict : Result (List PathInfo) Reason) : Type 0 where
  pub showable : IsShowable seen
  pub seeds : AreSeedsValid seen job
  pub is : IsOutcomeVerdict seen job (Ok answer) verdict

-- a refusal of memory, or of a view that is gone
abbrev pub IsUnseen : BookFault → Type 0
IsUnseen NoMemory = Unit {0}
IsUnseen NoView = Unit {0}
IsUnseen other = ⊥

-- a refusal of a reader, as a book tells it
abbrev pub IsToldAs : ViewFault → BookFault → Type 0
IsToldAs view.NoMemory fault = fault ≡ NoMemory
IsToldAs (view.NoView why) fault = fault ≡ NoView
IsToldAs (view.NotValid path) fault = ⊥

-- What is found of an outcome by a list: of an answer, its verdict, for which memory may be
-- refused, or why that could not be had; of any other outcome, the reason why there is no answer.
-- Where memory or the view was refused before a builder ran, that refusal is found, as of a builder
-- to whom memory was refused.
abbrev pub IsFoundBy : (seen : List Entry) → Job → Result Answer Reason → JobVerdict → Type 0
IsFoundBy seen job (Ok answer) (Examined verdict) = (verdict ≡ Err OutOfMemory)
    ⊎ IsSeenVerdict seen job answer verdict
IsFoundBy seen job (Ok answer) (Refused fault) = IsUnseen fault
IsFoundBy seen job (Ok answer) (Unanswered why) = ⊥
IsFoundBy seen job (Err reason) (Unanswered why) = why ≡ reason
IsFoundBy seen job (Err reason) (Refused fault) = (reason ≡ OutOfMemory) × IsUnseen fault
IsFoundBy seen job (Err reason) (Examined verdict) = ⊥

-- What may be found of a job by a list: what is found of an outcome that a builder may give, or of
-- the reason that memory was refused to the builder.
pub record MayBeFound (may : Job → Result Answer Reason → Type 0) (seen : List Entry) (job : Job)
    (found : JobVerdict) : Type 0 where
  pub outcome : Result Answer Reason
  pub given : (outcome ≡ Err OutOfMemory) ⊎ may job outcome
  pub by : IsFoundBy seen job outcome found

-- the paths that are permitted to a job after some entries are permitted after others, and reach the
-- same paths with the same records, but for the job's own outputs
abbrev pub StaysPermitted : (before after : List Entry) → Job → Type 0
StaysPermitted before after job = (permitted : List Path) → ArePermittedPaths before job permitted
    → ArePermittedPaths after job permitted
    × ReachAlike (registered before) (registered after) job permitted

-- A reader has caught up with a book. Where a job of the book's has its seeds valid in the list
-- that the reader saw, the paths that were permitted to it by that list are permitted after the
-- book's entries, and reach the same there.
abbrev pub HasCaughtUp : (seen : List Entry) → Ledger → Job → Type 0
HasCaughtUp seen book job = (number : ℕ) → IsBooksLease book.run book.history job number
    → IsShowable seen → AreSeedsValid seen job → StaysPermitted seen book.history.entries job
