use Rattle.std.proofs.Common.{rules}
use Rattle.sched_core.proofs.Comparing.{same_there}
use Rattle.sched_core.proofs.is_job.same_entries.Goals as goal

pub returns-then-not-same_entry : goal.returns-then-not-same_entry
returns-then-not-same_entry c = search (rules, same_there)
