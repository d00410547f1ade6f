-- What keeps a book's history answered.
use Rattle.std.proofs.Common.{◌≡◌, ◌∙◌, ◌⊎◌, inl, inr, ℕ, List, Option, Some, None, Result, Ok, Err, rules}
use Rattle.std.specs.Prelude.{MatchOption}
use Rattle.valid_table.specs.Entries.{registered}
use Rattle.valid_table.specs.PathInfos.{PathInfo}
use Rattle.valid_table.specs.declared.entry.Entry.{Entry}
use Rattle.valid_view.specs.Shown.{IsShowable}
use Rattle.sched_core.specs.Books.{AreSeedsValid, IsBeginning, IsBooksLease, IsFailing, IsFinishing, Leased, Ledger, MayAllRefer}
use Rattle.build_outcome.specs.Jobs.{IsJob}
use Rattle.run_states.specs.Runs.{History, Run}
use Rattle.build_outcome.specs.declared.job.Answer.{Answer}
use Rattle.build_outcome.specs.declared.job.Job.{Job}
use Rattle.build_outcome.specs.declared.reason.Reason.{Reason}
use Rattle.build_outcome.specs.declared.reason.Reason.TheVariants.{OutOfMemory}
use Rattle.build_outcome.proofs.TestedVerdicts.{tested_verdict_stays}
use Rattle.sched_core.proofs.ExaminedRecords.{verdicts_may_refer}
use Rattle.store_run.specs.Builders.{IsAnswered, IsOutcomeVerdict, IsVerdictAfter, MayEndAs, answered_begin, answered_done, answered_fail}
use Rattle.store_run.specs.private.JobVerdicts.{IsFoundBy, IsToldOfSeeds, MayBeFound, StaysPermitted}
use Rattle.store_run.specs.declared.job_verdict.JobVerdict.TheVariants.{Examined, Unanswered}

pub after_beginning : (may : Job → Result Answer Reason → Type 0) (before after : Ledger)
    (job : Job) (number : ℕ) → IsAnswered may before.run before.history
    → IsBeginning before after job number → IsAnswered may after.run after.history
after_beginning may before after job number answered begins =
    rw (begins.run, begins.history) (answered_begin before.history job.derivation answered)

-- a lease that was told of some entries, by which its job's seeds are valid
pub told_at : {Told : Type 0} (names : Told → List Entry → Type 0) (entries : List Entry)
    (lease : Leased Told) → MatchOption lease.told ⊥ (λ told. names told entries)
    → AreSeedsValid entries lease.job → IsToldOfSeeds names lease
told_at {Told} names entries lease told seeds = by lease.told told
  where
    by : (o : Option Told) → MatchOption o ⊥ (λ t. names t entries)
        → MatchOption o ⊥
        (λ t. (known : List Entry) × names t known × AreSeedsValid known lease.job)
    by None none = absurd none
    by (Some t) named = (entries, named, seeds)

verdict_after : (may : Job → Result Answer Reason → Type 0) (run : Run) (entries : List Entry)
    (job : Job) (verdict : Result (List PathInfo) Reason)
    → IsJob run.graph job.derivation job → MayEndAs may entries job verdict
    → IsVerdictAfter may run entries job.derivation verdict
verdict_after may run entries job verdict is_job came = search rules

pub after_finishing : (may : Job → Result Answer Reason → Type 0) (before after : Ledger)
    (job : Job) (number : ℕ) (infos : List PathInfo)
    → IsAnswered may before.run before.history
    → (IsBooksLease before.run before.history job number
    → MayEndAs may before.history.entries job (Ok infos))
    → IsFinishing before after job number infos → IsAnswered may after.run after.history
after_finishing may before after job number infos answered came finishes =
    rw (finishes.run, finishes.history)
    (answered_done before.history job.derivation number finishes.done.node infos finishes.entry
    answered finishes.done.is_node
    (verdict_after may _ _ _ _ finishes.lease.is_job
    (came finishes.lease))
    finishes.done.is_entry)

why_after : (may : Job → Result Answer Reason → Type 0) (run : Run) (history : History)
    (job : Job) (number : ℕ) (reason : Reason) → IsBooksLease run history job number
    → (reason ≡ OutOfMemory) ⊎ (IsBooksLease run history job number
    → MayEndAs may history.entries job (Err reason))
    → (reason ≡ OutOfMemory) ⊎ IsVerdictAfter may run history.entries job.derivation (Err reason)
why_after may run history job number reason lease (inl refused) = inl refused
why_after may run history job number reason lease (inr came) =
    inr (verdict_after may _ _ _ _ lease.is_job (came lease))

pub after_failing : (may : Job → Result Answer Reason → Type 0) (before after : Ledger)
    (job : Job) (number : ℕ) (reason : Reason) → IsAnswered may before.run before.history
    → (reason ≡ OutOfMemory) ⊎ (IsBooksLease before.run before.history job number
    → MayEndAs may before.history.entries job (Err reason))
    → IsFailing before after job number reason → IsAnswered may after.run after.history
after_failing may before after job number reason answered why fails =
    rw (fails.run, fails.history)
    (answered_fail before.history job.derivation number reason answered
    (why_after may _ _ _ _ _ fails.lease why))

-- records come of an answer alone
outcome_may_refer : (entries : List Entry) (job : Job) (outcome : Result Answer Reason)
    (infos : List PathInfo) → IsOutcomeVerdict entries job outcome (Ok infos)
    → MayAllRefer entries job infos
outcome_may_refer entries job (Ok answer) infos (permitted, are, (is, passed)) =
    verdicts_may_refer entries job permitted answer infos are is
outcome_may_refer entries job (Err reason) infos is = let no = is.2 in absurd cc

pub came_may_refer : (may : Job → Result Answer Reason → Type 0) (entries : List Entry)
    (job : Job) (infos : List PathInfo) → MayEndAs may entries job (Ok infos)
    → MayAllRefer entries job infos
came_may_refer may entries job infos came = outcome_may_refer entries _ _ _ came.2

-- an outcome without an answer has one reason
same_reason : (reason : Reason) → ◌≡◌ {A = Result Answer Reason} (Err reason) (Err OutOfMemory)
    → reason ≡ OutOfMemory
same_reason reason is = cc

-- a verdict that was found by a list comes of an outcome that may be given, where what is permitted
-- by that list is permitted after the entries, or memory was refused
pub examined_comes : {P : Type 0} (may : Job → Result Answer Reason → Type 0)
    (seen entries : List Entry) (job : Job) (verdict : Result (List PathInfo) Reason)
    → MayBeFound may seen job (Examined verdict)
    → (P → IsShowable seen → AreSeedsValid seen job → StaysPermitted seen entries job)
    → (verdict ≡ Err OutOfMemory) ⊎ (P → MayEndAs may entries job verdict)
examined_comes {P} may seen entries job verdict found stays = by found.outcome found.given found.by
  where
    by : (outcome : Result Answer Reason) → (outcome ≡ Err OutOfMemory) ⊎ may job outcome
        → IsFoundBy seen job outcome (Examined verdict)
        → (verdict ≡ Err OutOfMemory) ⊎ (P → MayEndAs may entries job verdict)
    by (Ok answer) (inl refused) is = absurd cc
    by (Ok answer) (inr given) (inl refused) = inl refused
    by (Ok answer) (inr given) (inr is) =
        inr (λ holds.
        let permitted = is.is.0 in
        let stay = stays holds is.showable is.seeds permitted is.is.1 in (
          Ok answer,
          given,
          (
            permitted,
            stay.0,
            tested_verdict_stays (registered seen) (registered entries) job permitted answer verdict
                stay.1 is.is.2,
          ),
        ))
    by (Err reason) given is = absurd is

-- so does the reason of a builder that gave no answer
pub unanswered_comes : {P : Type 0} (may : Job → Result Answer Reason → Type 0)
    (seen entries : List Entry) (job : Job) (reason : Reason)
    → MayBeFound may seen job (Unanswered reason)
    → (reason ≡ OutOfMemory) ⊎ (P → MayEndAs may entries job (Err reason))
unanswered_comes {P} may seen entries job reason found = by found.outcome found.given found.by
  where
    by : (outcome : Result Answer Reason) → (outcome ≡ Err OutOfMemory) ⊎ may job outcome
        → IsFoundBy seen job outcome (Unanswered reason)
        → (reason ≡ OutOfMemory) ⊎ (P → MayEndAs may entries job (Err reason))
    by (Ok answer) given is = absurd is
    by (Err why) (inl refused) is = inl (is ∙ same_reason _ refused)
    by (Err why) (inr given) is = search rules

-- records come of an outcome
pub records_come : {P : Type 0} (may : Job → Result Answer Reason → Type 0) (entries : List Entry)
    (job : Job) (infos : List PathInfo)
    → ◌≡◌ {A = Result (List PathInfo) Reason} (Ok infos) (Err OutOfMemory)
    ⊎ (P → MayEndAs may entries job (Ok infos))
    → P → MayEndAs may entries job (Ok infos)
records_come may entries job infos (inl refused) = absurd cc
records_come may entries job infos (inr come) = come

-- so does a reason, but for want of memory
pub reason_comes : {P : Type 0} (may : Job → Result Answer Reason → Type 0) (entries : List Entry)
    (job : Job) (reason : Reason)
    → ◌≡◌ {A = Result (List PathInfo) Reason} (Err reason) (Err OutOfMemory)
    ⊎ (P → MayEndAs may entries job (Err reason))
    → (reason ≡ OutOfMemory) ⊎ (P → MayEndAs may entries job (Err reason))
reason_comes may entries job reason (inl refused) = inl cc
reason_comes may entries job reason (inr come) = inr come
