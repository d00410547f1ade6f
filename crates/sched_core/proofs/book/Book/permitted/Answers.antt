use Rattle.sched_core.proofs.BookSteps.{lease_seen}
use Rattle.sched_core.proofs.Building.{builds_over_all}
use Rattle.sched_core.proofs.book.Book.permitted.Goals as goal

pub permitted_to-requires : goal.permitted_to-requires
permitted_to-requires g c =
    builds_over_all _ _ c.self.invariant.kept.legal c.job-job.result.now c.number.result
    (lease_seen c.self.view_is (c.has_given.ensures.0 c.if-not-has_given.false))
