use Rattle.std.proofs.Common.{refl, subst, sym, arith}
use Rattle.std.proofs.lemmas.Result.{err_from_is_err_and}
use Rattle.sched_core.specs.Books.{AreSeedsValid, Ledger}
use Rattle.run_states.specs.Legal.{begins}
use Rattle.run_states.specs.StateTables.{CanBegin}
use Rattle.sched_core.proofs.BookSteps.{beginning, book_begun, book_published, lease_begun}
use Rattle.sched_core.proofs.Building.{begun_lease, builds_after_begin}
use Rattle.sched_core.proofs.Keeping.{room_to_begin}
use Rattle.sched_core.proofs.KeptStates.{can_begin, is_next}
use Rattle.sched_core.proofs.book.Book.next.Goals as goal

pub returns-in_default-clause-none : goal.returns-in_default-clause-none
returns-in_default-clause-none g c = (
  refl,
  λ d can.
      (rw c.in_default.is at c.next.ensures) d
      (is_next _ _ _ _ _ c.self.invariant.kept d
      (subst (λ (l : Ledger). CanBegin l.run l.history d) (sym c.self.view_is) can)),
)

pub returns-in_err-publish-clause-some : goal.returns-in_err-publish-clause-some
returns-in_err-publish-clause-some g c =
    let p = err_from_is_err_and c.from_residual.result c.from_residual.ensures.1 in
    rw (← c.self.view_is, p.1)
    (c.in-Some.d, can_begin _ _ _ _ _ c.self.invariant.kept _ c.in-Some.ensures)

pub returns-in_err-job-clause-some : goal.returns-in_err-job-clause-some
returns-in_err-job-clause-some g c =
    let p = err_from_is_err_and c.from_residual-in_err-job.result
    c.from_residual-in_err-job.ensures.1 in
    rw (← c.self.view_is, p.1)
    (c.in-Some.d, can_begin _ _ _ _ _ c.self.invariant.kept _ c.in-Some.ensures)

pub push_reserved-requires : goal.push_reserved-requires
push_reserved-requires g c =
    omega (
      arith,
      room_to_begin _ _ _ _ _ c.self.invariant.kept _
          (can_begin _ _ _ _ _ c.self.invariant.kept _ c.in-Some.ensures),
    )

pub invariant_of-self : goal.invariant_of-self
invariant_of-self g c =
    rw (c.in_err-publish.ensures.err.0, c.in_err-publish.ensures.err.1) c.self.invariant

pub invariant_of-self-in_err-job : goal.invariant_of-self-in_err-job
invariant_of-self-in_err-job g c =
    book_published _ _ _ _ _ _ _ _ _ _ _ c.self.invariant c.in_ok-publish.ensures.ok.0
    c.in_ok-publish.ensures.ok.1

pub invariant_of-self-2 : goal.invariant_of-self-2
invariant_of-self-2 g c =
    book_begun _ _ _ _ _ _ _ _ _ _ _ _ _ _ _ c.self.invariant
    (can_begin _ _ _ _ _ c.self.invariant.kept _ c.in-Some.ensures)
    c.in_ok-publish.ensures.ok.0 c.in_ok-publish.ensures.ok.1 c.push_reserved.ensures.items
    c.begin.ensures c.push_reserved.ensures.capacity

pub returns-clause-none : goal.returns-clause-none
returns-clause-none g c =
    beginning _ _ _ _ _ _ _ _ _ _ _ _ _ _ _ _ c.in_ok-job.job _ c.self.view_is c.self.invariant
    (can_begin _ _ _ _ _ c.self.invariant.kept _ c.in-Some.ensures)
    (rw c.plan.ensures at c.in_ok-job.ensures.ok) c.new.ensures.job c.new.ensures.number
    c.in_ok-publish.ensures.ok.0 c.in_ok-publish.ensures.ok.1 c.push_reserved.ensures.items
    c.begin.ensures

pub returns-clause-seeds : goal.returns-clause-seeds
returns-clause-seeds g c =
    let kept = c.self.invariant.kept in
    let lease = begun_lease _ _ c.in-Some.d c.in_ok-job.job
    (rw c.plan.ensures at c.in_ok-job.ensures.ok) in
    let seeds : AreSeedsValid c.self.inside.journal.entries c.in_ok-job.job =
    builds_after_begin _ _ c.in-Some.d kept.legal
    (can_begin _ _ _ _ _ kept _ c.in-Some.ensures) c.in_ok-job.job
    (begins c.self.inside.events.items) lease in
    subst (λ (l : Ledger). AreSeedsValid l.history.entries c.new.result.job) c.self.view_is
    (rw c.new.ensures.job seeds)

pub returns-clause-lease : goal.returns-clause-lease
returns-clause-lease g c =
    lease_begun _ _ _ _ _ _ _ _ _ _ _ _ _ c.in_ok-job.job _ c.self.invariant
    (rw c.plan.ensures at c.in_ok-job.ensures.ok) c.new.ensures.job c.new.ensures.number
    c.push_reserved.ensures.items c.begin.ensures
