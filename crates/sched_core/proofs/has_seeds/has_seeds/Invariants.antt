use Rattle.std.proofs.Common.{◌≡◌, Some}
use Rattle.std.specs.Prelude.{slice_get}
use Rattle.drv_graph.specs.Nodes.{Node}
use Rattle.sched_core.specs.private.Following.{IsRest}
use Rattle.sched_core.proofs.SeedParts.{first_seeds}
use Rattle.sched_core.proofs.has_seeds.has_seeds.Given as goal

abbrev pub invariant-loop-index : goal.invariant-loop-index
invariant-loop-index l = (node : Node) → slice_get l.plan.nodes l.d ≡ Some node
    → IsRest l.seeds (first_seeds l.plan.nodes node l.index) l.left
