-- What was left and what is open is right, and leads on to the root by plan order.
use Rattle.std.proofs.Common.{◌≤◌, length, reverse}
use Rattle.indexmap.specs.IndexMap.{keys}
use Rattle.nix_drv.specs.Sources.{GivesSame}
use Rattle.drv_graph.specs.PlanNodes.{nodes_of}
use Rattle.drv_graph.proofs.Walking.{IsWalk}
use Rattle.drv_graph.proofs.WalkSteps.{to_do}
use Rattle.drv_graph.proofs.walks.walk.walk.Given as goal

abbrev pub invariant-walk : goal.invariant-walk
invariant-walk g l = record {
  keeps : GivesSame (g.S.DrvSource.gives l.fn.source) (g.S.DrvSource.gives l.source);
  counts : g.S.DrvSource.failures l.fn.source ≤ g.S.DrvSource.failures l.source;
  walk : IsWalk l.rules.profile l.rules.dir.now (g.S.DrvSource.gives l.fn.source) l.roots l.root
      (nodes_of l.fn.found.nodes.items) l.found (reverse l.visits.items);
}

abbrev pub decreases-walk : goal.decreases-walk
decreases-walk g l = to_do (length (keys l.found.marks)) (reverse l.visits.items)
