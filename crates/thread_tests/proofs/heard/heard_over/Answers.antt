use Rattle.store_run.specs.Builders.{answered_opening}
use Rattle.thread_tests.proofs.heard.heard_over.Goals as goal

pub new-locked-requires-clause-answered : goal.new-locked-requires-clause-answered
new-locked-requires-clause-answered g c κs within =
    rw c.in_ok-book.ensures.history (answered_opening _)
