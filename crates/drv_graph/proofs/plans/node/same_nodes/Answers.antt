use Rattle.std.proofs.Common.{◌∙◌, sym}
use Rattle.std.specs.Cmp.Derive.Mapped.{pointwise-map}
use Rattle.drv_graph.specs.Equality.{same_node}
use Rattle.drv_graph.specs.PlanNodes.{node_of}
use Rattle.drv_graph.proofs.plans.node.same_nodes.Goals as goal

pub returns : goal.returns
returns c = c.eq.ensures ∙ sym (pointwise-map node_of same_node c.args.a.now c.args.b.now)
