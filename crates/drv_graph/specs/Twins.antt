-- Tests of *Twins*: whether two derivations of a plan are, and which is the first of some.
use Rattle.std.specs.Prelude.{◌&&◌, Bool, false, ℕ, Option, Some, None, List, slice_get}
use Rattle.std.specs.List.{list_all, list_any, position_or_len}
use Rattle.nix_names.specs.Bytes.{Path}
use Rattle.nix_names.specs.Names.{same_bytes}
use Rattle.nix_drv.specs.Derivation.{Drv}
use Rattle.drv_graph.specs.Nodes.{Node, output_paths_of}

-- whether each of some paths is one of others
abbrev pub are_among : (paths others : List Path) → Bool
are_among paths others = list_all (λ path. list_any (same_bytes path) others) paths

-- whether two derivations are twins: they have the same set of output paths
abbrev pub are_twins : Drv → Drv → Bool
are_twins a b = are_among (output_paths_of a) (output_paths_of b)
    && are_among (output_paths_of b) (output_paths_of a)

-- whether two nodes are there, and are twins
abbrev pub are_twins_at : (a b : Option Node) → Bool
are_twins_at (Some a) (Some b) = are_twins a.drv b.drv
are_twins_at (Some a) None = false
are_twins_at None b = false

-- the number of the first node that is a twin of the one with this number
abbrev pub first_twin_of : List Node → ℕ → ℕ
first_twin_of nodes d =
    position_or_len (λ (n : Node). are_twins_at (Some n) (slice_get nodes d)) nodes
