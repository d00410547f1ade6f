-- How the code marks the roots of a plan.
use Rattle.std.specs.Prelude.{◌≡◌, Bool, false, ℕ, List, length}
use Rattle.std.specs.List.{slice_index_or}
use Rattle.drv_graph.specs.Plans.{Graph}
use Rattle.run_states.specs.Runs.{is_one_of}

-- whether a derivation is marked
abbrev pub is_marked : List Bool → ℕ → Bool
is_marked marks d = slice_index_or marks d false

-- Of each derivation, whether it is a root.
pub record AreRoots (graph : Graph) (marks : List Bool) : Type 0 where
  pub count : length marks ≡ length graph.nodes
  pub each : (d : ℕ) → is_marked marks d ≡ is_one_of graph.roots d
