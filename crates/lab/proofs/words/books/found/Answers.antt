use Rattle.std.proofs.Common.{List, ℕ, subst, sym}
use Rattle.sched_core.specs.Books.{ArePermittedPaths, IsBooksLease}
use Rattle.build_outcome.specs.declared.job.Job.{Job}
use Rattle.lab.proofs.OtherJobs.{may_refer_by_permitted, may_refer_by_none, under}
use Rattle.lab.proofs.words.books.found.Goals as goal

pub returns-in-Ok : goal.returns-in-Ok
returns-in-Ok c =
    let book = c.args.book.now in
    let job : Job = c.args.lease.now.job in
    let lent = subst (λ (ps : List (List ℕ)). ArePermittedPaths book.history.entries job ps)
    (sym c.deref.ensures.value) c.in-Ok.ensures.ok in
    under (IsBooksLease book.run book.history job c.args.lease.now.number) book.history.entries job
    c.examined.result
    (may_refer_by_permitted book.history.entries job c.args.job.now c.deref.result.now
    c.args.answer c.examined.result lent c.examined.ensures)

pub returns-in-Err-ForeignLease : goal.returns-in-Err-ForeignLease
returns-in-Err-ForeignLease c =
    let book = c.args.book.now in
    let job : Job = c.args.lease.now.job in
    let verdict = c.examined-in-Err-ForeignLease in
    under (IsBooksLease book.run book.history job c.args.lease.now.number) book.history.entries job
    verdict.result
    (may_refer_by_none book.history.entries job c.args.job.now c.args.answer verdict.result
    verdict.ensures)
