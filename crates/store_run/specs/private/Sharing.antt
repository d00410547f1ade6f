-- What the workers of a run share, and what becomes of it (this product's own).
use Rattle.std.specs.Prelude.{◌≡◌, ◌⊎◌, ℕ, Option, Some, None, List, Result, Ok, Err}
use Rattle.valid_table.specs.PathInfos.{PathInfo}
use Rattle.run_states.specs.StateTables.{CanBegin, IsRunSettled}
use Rattle.sched_core.specs.Books.{IsBeginning, IsBooksLease, IsFailing, IsFinishFault, IsFinishing, IsNotAllowed, IsSameRun, Leased, Ledger}
use Rattle.run_states.specs.declared.fault.BookFault.{BookFault}
use Rattle.run_states.specs.declared.fault.BookFault.TheVariants.{NoMemory, NoView, ForeignLease, NotLawful}
use Rattle.build_outcome.specs.declared.job.Job.{Job}
use Rattle.build_outcome.specs.declared.reason.Reason.{Reason}
use Rattle.build_outcome.specs.declared.reason.Reason.TheVariants.{OutOfMemory}
use Rattle.store_run.specs.declared.job_verdict.JobVerdict.{JobVerdict}
use Rattle.store_run.specs.declared.job_verdict.JobVerdict.TheVariants as found
use Rattle.store_run.specs.declared.job_verdict.LeaseEnd.{LeaseEnd}
use Rattle.store_run.specs.declared.job_verdict.LeaseEnd.TheVariants.{Registered, Failed, Stopped}
use Rattle.store_run.specs.declared.turn.Step.{Step}
use Rattle.store_run.specs.declared.turn.Step.TheVariants.{Build, Wait, End}
use Rattle.store_run.specs.declared.turn.Wake.{Wake}
use Rattle.store_run.specs.declared.turn.Wake.TheVariants.{Nobody, One, All}

-- What the workers share: the book, and why the run stops, if it does.
pub record Share : Type 0 where
  pub book : Ledger
  pub stop : Option BookFault

-- the book is settled
abbrev pub IsShareSettled : Share → Type 0
IsShareSettled share = IsRunSettled share.book.run share.book.history

-- the book has this lease open
abbrev pub HasGiven : Share → Job → (number : ℕ) → Type 0
HasGiven share job number = IsBooksLease share.book.run share.book.history job number

-- A worker gets a lease: nothing stops the run, and a derivation has begun under the lease.
pub record IsGiving (before after : Share) (job : Job) (number : ℕ) : Type 0 where
  pub runs : before.stop ≡ None
  pub begins : IsBeginning before.book after.book job number
  pub still_runs : after.stop ≡ None

-- A worker waits: nothing stops the run, the book isn't settled, but nothing can begin. Nothing
-- changes.
pub record IsWaiting (before after : Share) : Type 0 where
  pub runs : before.stop ≡ None
  pub unsettled : IsShareSettled before → ⊥
  pub none : (d : ℕ) → CanBegin before.book.run before.book.history d → ⊥
  pub same : after ≡ before

-- The run is over: it was stopped before, or the book is settled. Nothing changes.
pub record IsOver (before after : Share) : Type 0 where
  pub why : (before.stop ≡ None → ⊥) ⊎ IsShareSettled before
  pub same : after ≡ before

-- The book gave no lease, though something can begin, and its fault stops the run. The outlet may
-- have published entries.
pub record IsRefused (before after : Share) : Type 0 where
  pub runs : before.stop ≡ None
  pub can : (d : ℕ) × CanBegin before.book.run before.book.history d
  pub same : IsSameRun before.book after.book
  pub fault : BookFault
  pub is_fault : (fault ≡ NoMemory) ⊎ (fault ≡ NoView)
  pub stops : after.stop ≡ Some fault

-- a fact holds of the lease that a step gives, if it gives one
abbrev pub IfGiven : {Told : Type 0} → Step Told → (Leased Told → Type 0) → Type 0
IfGiven (Build lease) fact = fact lease
IfGiven Wait fact = Unit {0}
IfGiven End fact = Unit {0}

-- what a worker is to do next
abbrev pub IsStep : {Told : Type 0} → (before after : Share) → Step Told → Type 0
IsStep before after (Build lease) = IsGiving before after lease.job lease.number
IsStep before after Wait = IsWaiting before after
IsStep before after End = IsOver before after ⊎ IsRefused before after

-- a derivation can begin
abbrev pub CanGoOn : Share → Type 0
CanGoOn share = (d : ℕ) × CanBegin share.book.run share.book.history d

-- whom a worker wakes after its step: all where the run ends, one where the worker takes a lease
-- and another derivation can begin, and else nobody
abbrev pub IsWake : {Told : Type 0} → (after : Share) → Step Told → Wake → Type 0
IsWake after (Build lease) Nobody = CanGoOn after → ⊥
IsWake after (Build lease) One = CanGoOn after
IsWake after (Build lease) All = ⊥
IsWake after Wait wake = wake ≡ Nobody
IsWake after End wake = wake ≡ All

-- the first cause of a stop: the cause before, if there was one, or else this fault
abbrev pub first_cause : Option BookFault → BookFault → Option BookFault
first_cause (Some cause) fault = Some cause
first_cause None fault = Some fault

-- The book stays as it was, and the run stops for this fault, if nothing stopped it before.
pub record IsStopping (before after : Share) (fault : BookFault) : Type 0 where
  pub book : after.book ≡ before.book
  pub stops : after.stop ≡ first_cause before.stop fault

-- A lease was given up, since it isn't the book's.
pub record IsForeign (before after : Share) (job : Job) (number : ℕ) : Type 0 where
  pub foreign : HasGiven before job number → ⊥
  pub stopping : IsStopping before after ForeignLease

-- A lease was given up, since its derivation may not be registered with these records.
pub record IsUnlawful (before after : Share) (job : Job) (number : ℕ) (infos : List PathInfo)
    : Type 0 where
  pub lease : HasGiven before job number
  pub not_allowed : IsNotAllowed before.book.run.graph before.book.history.entries
      job.derivation infos
  pub stopping : IsStopping before after NotLawful

-- A lease was given up for a refusal, since there is no verdict that can be used.
pub record IsGivenUp (before after : Share) (refusal : BookFault) (end : LeaseEnd) : Type 0 where
  pub is : end ≡ Stopped refusal
  pub stopping : IsStopping before after refusal

-- A lease's outputs were registered with these records.
pub record IsBuilt (before after : Share) (job : Job) (number : ℕ) (infos : List PathInfo)
    : Type 0 where
  pub finishes : IsFinishing before.book after.book job number infos
  pub stop : after.stop ≡ before.stop

-- A lease's derivation failed, for this reason.
pub record IsFailed (before after : Share) (job : Job) (number : ℕ) (reason : Reason)
    : Type 0 where
  pub fails : IsFailing before.book after.book job number reason
  pub stop : after.stop ≡ before.stop

-- the lease is the book's and these records may be registered: only memory can be refused
abbrev pub IsWanting : Share → Job → (number : ℕ) → List PathInfo → Type 0
IsWanting before job number infos = IsFinishFault before.book job number infos NoMemory

-- how a lease ends for a reason: its derivation failed, or it isn't the book's
abbrev pub IsNoting : (before after : Share) → Job → (number : ℕ) → Reason → LeaseEnd → Type 0
IsNoting before after job number reason Registered = ⊥
IsNoting before after job number reason (Failed why) =
    (why ≡ reason) × IsFailed before after job number reason
IsNoting before after job number reason (Stopped ForeignLease) = IsForeign before after job number
IsNoting before after job number reason (Stopped other) = ⊥

-- How a lease ends with these records: its outputs were registered; or memory was refused for that,
-- where the book may want it; or the lease isn't the book's, or its derivation may not be
-- registered with these records.
abbrev pub IsLeaseRegistering : (before after : Share) → Job → (number : ℕ) → List PathInfo
    → LeaseEnd
    → Type 0
IsLeaseRegistering before after job number infos Registered = IsBuilt before after job number infos
IsLeaseRegistering before after job number infos (Failed why) =
    (why ≡ OutOfMemory) × IsWanting before job number infos
    × IsFailed before after job number OutOfMemory
IsLeaseRegistering before after job number infos (Stopped ForeignLease) =
    IsForeign before after job number
IsLeaseRegistering before after job number infos (Stopped NotLawful) =
    IsUnlawful before after job number infos
IsLeaseRegistering before after job number infos (Stopped other) = ⊥

-- how a lease ends by a verdict
abbrev pub IsNotingVerdict : (before after : Share) → Job → (number : ℕ)
    → Result (List PathInfo) Reason → LeaseEnd → Type 0
IsNotingVerdict before after job number (Ok infos) end =
    IsLeaseRegistering before after job number infos end
IsNotingVerdict before after job number (Err reason) end =
    IsNoting before after job number reason end

-- How a lease ends, by what was found of its job and by whether the reader caught up with the book.
-- A verdict is noted where the reader caught up. Where the view was refused, to the verdict or to
-- the reader, the run stops for that refusal, if nothing stopped it before.
abbrev pub IsEnding : {A : Type 0} → (before after : Share) → Job → (number : ℕ) → JobVerdict
    → (caught_up : Result A BookFault) → LeaseEnd → Type 0
IsEnding before after job number (found.Examined verdict) (Ok up) end =
    IsNotingVerdict before after job number verdict end
IsEnding before after job number (found.Examined verdict) (Err refusal) end =
    IsGivenUp before after refusal end
IsEnding before after job number (found.Unanswered reason) caught_up end =
    IsNoting before after job number reason end
IsEnding before after job number (found.Refused NoMemory) caught_up end =
    IsNoting before after job number OutOfMemory end
IsEnding before after job number (found.Refused refusal) caught_up end =
    IsGivenUp before after refusal end
