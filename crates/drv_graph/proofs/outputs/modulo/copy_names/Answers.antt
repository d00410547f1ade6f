use Rattle.std.proofs.Common.{rules}
use Rattle.drv_graph.proofs.Loops.{mapped_more}
use Rattle.drv_graph.proofs.outputs.modulo.copy_names.Goals as goal

pub loop-name-preserved : goal.loop-name-preserved
loop-name-preserved c = search (rules, mapped_more)
