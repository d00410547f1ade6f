-- What holds of every plan, whatever its source and its roots.
use Rattle.std.specs.Prelude.{◌<◌, ◌≤◌, All, length, nat_eq}
use Rattle.std.specs.List.{IsDistinct}
use Rattle.nix_names.specs.Bytes.{Dir}
use Rattle.nix_names.specs.StorePaths.{IsDrvPath}
use Rattle.drv_graph.specs.Nodes.{Node, paths_of}
use Rattle.drv_graph.specs.PlanNodes.{output_paths_of}
use Rattle.drv_graph.specs.Plans.{Graph, AreLawful}
use Rattle.drv_graph.specs.Loading.{AreDistinct, max_nodes}

-- No two derivations have one path. Each is lawful, in some folder, after those before it, so its
-- inputs have smaller numbers. There are no more than a plan may have. The roots are numbers of
-- derivations, none twice. Each derivation's path is that of a derivation's file, and no two of its
-- outputs have one path.
pub record IsSound (graph : Graph) : Type 0 where
  pub dir : Dir
  pub lawful : AreLawful graph.profile dir graph.nodes
  pub distinct : AreDistinct (paths_of graph.nodes)
  pub few : length graph.nodes ≤ max_nodes
  pub roots_within : All (λ root. root < length graph.nodes) graph.roots
  pub roots_once : IsDistinct nat_eq graph.roots
  pub named : All (λ (n : Node). IsDrvPath n.path) graph.nodes
  pub own_outputs : All (λ (n : Node). AreDistinct (output_paths_of n.drv)) graph.nodes
