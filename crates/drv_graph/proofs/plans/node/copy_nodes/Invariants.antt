use Rattle.std.proofs.Common.{take, ◌≡◌, length, vec_capacity, vec_len}
use Rattle.std.specs.List.{AllZip}
use Rattle.drv_graph.specs.PlanNodes.{IsSameNode}
use Rattle.drv_graph.proofs.plans.node.copy_nodes.Given as goal

abbrev pub invariant-loop-node : goal.invariant-loop-node
invariant-loop-node l = record {
  first : AllZip IsSameNode (take l.node-index l.nodes) l.copies.items;
  count : vec_len l.copies ≡ l.node-index;
  room : vec_capacity l.copies ≡ length l.nodes;
}
