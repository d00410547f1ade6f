use Rattle.store_run.specs.ScheduleExample.{both, side_by_side}
use Rattle.thread_tests.proofs.example.decided.Goals as goal

pub returns : goal.returns
returns c = c.outcomes_decide.ensures both side_by_side c.builds_may_overlap.ensures.whole.end
