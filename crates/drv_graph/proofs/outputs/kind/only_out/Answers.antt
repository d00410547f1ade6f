use Rattle.std.proofs.Common.{rules}
use Rattle.drv_graph.proofs.Loops.{one_element}
use Rattle.drv_graph.proofs.outputs.kind.only_out.Goals as goal

pub returns-then-eq : goal.returns-then-eq
returns-then-eq c = search (rules, one_element)
