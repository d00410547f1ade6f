use Rattle.std.proofs.Common.{rules}
use Rattle.sched_core.proofs.SeedParts.{added_more}
use Rattle.sched_core.proofs.seeds_of.add_paths.Goals as goal

pub loop-path-preserved : goal.loop-path-preserved
loop-path-preserved c = search (rules, added_more)
