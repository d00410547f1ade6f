use Rattle.std.proofs.Common.{rules}
use Rattle.drv_graph.proofs.Masking.{masked_parts}
use Rattle.drv_graph.proofs.outputs.modulo.masked_parts.Goals as goal

pub returns : goal.returns
returns c = search (rules, masked_parts)
