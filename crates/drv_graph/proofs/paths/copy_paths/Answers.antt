use Rattle.std.proofs.Common.{rules}
use Rattle.drv_graph.proofs.Copies.{copied_more}
use Rattle.drv_graph.proofs.paths.copy_paths.Goals as goal

pub loop-path-preserved : goal.loop-path-preserved
loop-path-preserved c = search (rules, copied_more)
