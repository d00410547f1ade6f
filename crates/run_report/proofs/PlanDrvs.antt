-- The derivations of a plan's nodes, by their numbers.
use Rattle.std.proofs.Common.{◌≡◌, ℕ, List, Some, rules}
use Rattle.std.specs.Prelude.{slice_get}
use Rattle.nix_names.proofs.Lists.{get_mapped}
use Rattle.nix_drv.specs.Derivation.{Drv}
use Rattle.drv_graph.specs.Nodes.{Node}
use Rattle.drv_graph.specs.PlanNodes.{drvs_of}

-- the derivation with a number is that of its node
pub drv_is : (nodes : List Node) (d : ℕ) (drv : Drv) (node : Node) → slice_get nodes d ≡ Some node
    → slice_get (drvs_of nodes) d ≡ Some drv → drv ≡ node.drv
drv_is nodes d drv node is_node is_drv = search (rules, get_mapped)
