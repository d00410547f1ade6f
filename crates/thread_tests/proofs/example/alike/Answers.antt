use Rattle.store_run.specs.ScheduleExample.{both, in_turn, side_by_side}
use Rattle.thread_tests.proofs.example.alike.Goals as goal

pub returns : goal.returns
returns c = c.any_schedule.ensures.alike both side_by_side in_turn
    c.builds_may_overlap.ensures.whole
    c.builds_may_overlap.ensures.in_turn
