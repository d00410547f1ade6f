use Rattle.std.proofs.Common.{rules}
use Rattle.drv_graph.proofs.UsedNodes.{used_more}
use Rattle.drv_graph.proofs.walks.walk_state.used_inputs.Goals as goal

pub loop-number-preserved : goal.loop-number-preserved
loop-number-preserved c = search (rules, used_more)
