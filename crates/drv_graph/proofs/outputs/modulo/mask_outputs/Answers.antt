use Rattle.std.proofs.Common.{rules}
use Rattle.drv_graph.proofs.Loops.{written_all, written_more}
use Rattle.drv_graph.proofs.outputs.modulo.mask_outputs.Goals as goal

pub loop-output-preserved : goal.loop-output-preserved
loop-output-preserved c = search (rules, written_more)

pub returns : goal.returns
returns c = search (rules, written_all)
