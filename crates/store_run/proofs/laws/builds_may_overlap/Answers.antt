use Rattle.store_run.proofs.ExampleLoads.{loads}
use Rattle.store_run.proofs.ScheduleExample.{left_failed, overlap, right_built, thread, whole}
use Rattle.store_run.proofs.laws.builds_may_overlap.Goals as goal

pub returns-clause-loads : goal.returns-clause-loads
returns-clause-loads c = loads

pub returns-clause-whole : goal.returns-clause-whole
returns-clause-whole c = whole

pub returns-clause-overlap : goal.returns-clause-overlap
returns-clause-overlap c = overlap

pub returns-clause-failed : goal.returns-clause-failed
returns-clause-failed c = left_failed

pub returns-clause-built : goal.returns-clause-built
returns-clause-built c = right_built

pub returns-clause-in_turn : goal.returns-clause-in_turn
returns-clause-in_turn c = thread
