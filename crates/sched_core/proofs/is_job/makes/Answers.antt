use Rattle.std.proofs.Common.{rules}
use Rattle.sched_core.proofs.Comparing.{path_there, paths_more, same_more, same_there}
use Rattle.sched_core.proofs.is_job.makes.Goals as goal

pub returns-then-not-is_made : goal.returns-then-not-is_made
returns-then-not-is_made c = search (rules, same_there, path_there)

pub loop-n-preserved : goal.loop-n-preserved
loop-n-preserved c = search (rules, same_more, paths_more)
