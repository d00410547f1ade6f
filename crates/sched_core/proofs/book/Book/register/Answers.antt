use Rattle.std.proofs.Common.{◌≡◌, ◌∙◌, ◌++◌, ◌∷◌, [], ℕ, List, ap, arith, refl, subst, sym, rules}
use Rattle.std.proofs.lemmas.Result.{err_from_is_err_and}
use Rattle.valid_table.specs.PathInfos.{PathInfo}
use Rattle.valid_table.specs.declared.entry.Entry.{Entry}
use Rattle.sched_core.specs.Books.{IsBooksLease, IsDone, Ledger, MayAllRefer}
use Rattle.sched_core.specs.private.Booking.{run_over}
use Rattle.run_states.specs.Numbers.{fault_of}
use Rattle.sched_core.specs.private.Dones.{IsDoneEntry}
use Rattle.run_states.specs.Runs.{History, Run}
use Rattle.run_states.specs.StateTables.{StateTable}
use Rattle.build_outcome.specs.declared.job.Job.{Job}
use Rattle.sched_core.proofs.BookSteps.{book_ended, history_ended, lease_seen}
use Rattle.sched_core.proofs.Ending.{append_fault, done_under_lease, entry_fault, finishing, may_append}
use Rattle.sched_core.proofs.Keeping.{room_to_end}
use Rattle.sched_core.proofs.book.Book.register.Goals as goal

-- a lease whose job and number were read is the book's
owned : {run : Run} {history : History} {read job : Job} {n number : ℕ}
    → IsBooksLease run history read n → read ≡ job → n ≡ number
    → IsBooksLease run history job number
owned {run = run} {history = history} {job = job} {n = n} lease same_job same_number = search rules

-- its entry is that of a Done
done_here : {run : Run} {history : History} {shown pending : List Entry} {ledger : Ledger}
    {read job : Job} {number : ℕ} (infos : List PathInfo) (entry : Entry)
    → record { run = run; history = history; shown = shown; pending = pending } ≡ ledger
    → IsBooksLease run history job number
    → (IsBooksLease ledger.run ledger.history job number
    → MayAllRefer ledger.history.entries job infos)
    → read ≡ job → IsDoneEntry run.graph read.derivation history.entries infos entry
    → IsDone run history.entries job.derivation infos entry
done_here {job = job} {number = number} infos entry view lease may same told =
    done_under_lease _ _ _ _ _ _ lease
    (subst (λ (l : Ledger). IsBooksLease l.run l.history job number
    → MayAllRefer l.history.entries job infos) (sym view) may lease)
    (rw (← same) told)

pub append-requires-clause-new : goal.append-requires-clause-new
append-requires-clause-new g c =
    let lease = owned
    (lease_seen c.self.view_is (c.has_given.ensures.0 c.if-not-has_given.false))
    c.job-job.ensures c.number-number.ensures in
    let done = done_here _ c.in_ok-prepared.prepared.entry c.self.view_is lease c.requires
    c.job-job.ensures (rw c.plan.ensures at c.in_ok-prepared.ensures.entry) in
    (may_append _ _ _ _ _ _ _ done c.self.invariant.holds c.in_ok-prepared.ensures.shown).0

pub append-requires-clause-closed : goal.append-requires-clause-closed
append-requires-clause-closed g c =
    let lease = owned
    (lease_seen c.self.view_is (c.has_given.ensures.0 c.if-not-has_given.false))
    c.job-job.ensures c.number-number.ensures in
    let done = done_here _ c.in_ok-prepared.prepared.entry c.self.view_is lease c.requires
    c.job-job.ensures (rw c.plan.ensures at c.in_ok-prepared.ensures.entry) in
    (may_append _ _ _ _ _ _ _ done c.self.invariant.holds c.in_ok-prepared.ensures.shown).1

pub push_reserved-requires-clause-new : goal.push_reserved-requires-clause-new
push_reserved-requires-clause-new g c =
    let lease = owned
    (lease_seen c.self.view_is (c.has_given.ensures.0 c.if-not-has_given.false))
    c.job-job.ensures c.number-number.ensures in
    let done = done_here _ c.in_ok-prepared.prepared.entry c.self.view_is lease c.requires
    c.job-job.ensures (rw c.plan.ensures at c.in_ok-prepared.ensures.entry) in
    (may_append _ _ _ _ _ _ _ done c.in_ok-prepared.ensures.same refl).0

pub push_reserved-requires-clause-closed : goal.push_reserved-requires-clause-closed
push_reserved-requires-clause-closed g c =
    let lease = owned
    (lease_seen c.self.view_is (c.has_given.ensures.0 c.if-not-has_given.false))
    c.job-job.ensures c.number-number.ensures in
    let done = done_here _ c.in_ok-prepared.prepared.entry c.self.view_is lease c.requires
    c.job-job.ensures (rw c.plan.ensures at c.in_ok-prepared.ensures.entry) in
    (may_append _ _ _ _ _ _ _ done c.in_ok-prepared.ensures.same refl).1

pub push_reserved-requires-2 : goal.push_reserved-requires-2
push_reserved-requires-2 g c =
    let lease = lease_seen c.self.view_is (c.has_given.ensures.0 c.if-not-has_given.false) in
    omega (arith, room_to_end _ _ _ _ _ c.self.invariant.kept _ _ lease.building)

pub returns-in_err-prepared-clause-fault : goal.returns-in_err-prepared-clause-fault
returns-in_err-prepared-clause-fault g c =
    let lease = owned
    (lease_seen c.self.view_is (c.has_given.ensures.0 c.if-not-has_given.false))
    c.job-job.ensures c.number-number.ensures in
    let p = err_from_is_err_and c.from_residual.result c.from_residual.ensures.1 in
    rw (p.1, p.2)
    (entry_fault _ _ _ _ _ _ _ _ c.args.checked.now c.in_err-prepared.field-0.0 c.self.view_is lease
    (ap (λ (j : Job). j.derivation) c.job-job.ensures)
    (rw c.plan.ensures at c.in_err-prepared.ensures.err))

pub returns-in_err-append-clause-fault : goal.returns-in_err-append-clause-fault
returns-in_err-append-clause-fault g c =
    let lease = owned
    (lease_seen c.self.view_is (c.has_given.ensures.0 c.if-not-has_given.false))
    c.job-job.ensures c.number-number.ensures in
    let p = err_from_is_err_and c.from_residual-in_err-append.result
    c.from_residual-in_err-append.ensures.1 in
    rw p.1
    (append_fault _ _ _ _ _ _ _ _ c.args.checked.now c.in_ok-prepared.prepared.entry p.0
    c.self.view_is lease
    (ap (λ (j : Job). j.derivation) c.job-job.ensures)
    (rw c.plan.ensures at c.in_ok-prepared.ensures.entry)
    (p.2 ∙ ap fault_of c.in_err-append.ensures.memory))

pub returns-clause-ok : goal.returns-clause-ok
returns-clause-ok g c =
    let lease = owned
    (lease_seen c.self.view_is (c.has_given.ensures.0 c.if-not-has_given.false))
    c.job-job.ensures c.number-number.ensures in
    let done = done_here _ c.in_ok-prepared.prepared.entry c.self.view_is lease c.requires
    c.job-job.ensures (rw c.plan.ensures at c.in_ok-prepared.ensures.entry) in
    let added = c.push_reserved.ensures.entries
    ∙ ap (λ (es : List Entry). es ++ c.in_ok-prepared.prepared.entry ∷ [])
    c.in_ok-prepared.ensures.same in
    finishing _ _ _ _ _ _ _ _ _ _ _ _ _ _ _ _ _ c.self.view_is lease done
    (ap (λ (s : StateTable). run_over s c.self.inside.system) c.finish.ensures) refl
    (ap (λ (j : Job). j.derivation) c.job-job.ensures) c.number-number.ensures
    (history_ended _ _ _ _ _ _ _ _ c.self.invariant.opened added c.push_reserved-2.ensures.items)
    c.in_ok-append.ensures.same c.in_ok-append.ensures.ok c.in_ok-prepared.ensures.shown

pub invariant_of-self : goal.invariant_of-self
invariant_of-self g c =
    rw c.new.ensures.same c.self.invariant

pub invariant_of-self-in_err-append : goal.invariant_of-self-in_err-append
invariant_of-self-in_err-append g c =
    rw (
      c.in_err-append.ensures.same,
      c.in_err-append.ensures.err,
      c.in_ok-prepared.ensures.same,
    ) c.self.invariant

pub invariant_of-self-2 : goal.invariant_of-self-2
invariant_of-self-2 g c =
    let lease = owned
    (lease_seen c.self.view_is (c.has_given.ensures.0 c.if-not-has_given.false))
    c.job-job.ensures c.number-number.ensures in
    let done = done_here _ c.in_ok-prepared.prepared.entry c.self.view_is lease c.requires
    c.job-job.ensures (rw c.plan.ensures at c.in_ok-prepared.ensures.entry) in
    let added = c.push_reserved.ensures.entries
    ∙ ap (λ (es : List Entry). es ++ c.in_ok-prepared.prepared.entry ∷ [])
    c.in_ok-prepared.ensures.same in
    let building =
    (lease_seen c.self.view_is (c.has_given.ensures.0 c.if-not-has_given.false)).building in
    let its_done = subst (λ (j : Job). IsDone (run_over c.self.inside.states
    c.self.inside.system) c.self.inside.journal.entries j.derivation c.args.checked.now
    c.in_ok-prepared.prepared.entry) (sym c.job-job.ensures) done in
    book_ended _ _ _ _ _ _ _ _ _ _ _ _ _ _ _ _ _ _ _ _ c.self.invariant building its_done
    c.in_ok-prepared.ensures.derived added c.push_reserved-2.ensures.items c.finish.ensures
    c.push_reserved-2.ensures.capacity c.in_ok-append.ensures.same c.in_ok-append.ensures.ok
    c.in_ok-prepared.ensures.shown
