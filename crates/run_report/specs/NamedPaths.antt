-- Which path is named in the line of a derivation that failed since an output refers to a path to
-- which it may not, or since the archive of a path is not known (this product's own).
use Rattle.std.specs.Prelude.{◌≡◌, ℕ, Option, Some, None, List, slice_get}
use Rattle.std.specs.List.{slice_index_or}
use Rattle.nix_names.specs.Bytes.{Path}
use Rattle.drv_graph.specs.Nodes.{Node}
use Rattle.drv_graph.specs.PlanNodes.{output_paths_of}
use Rattle.drv_graph.specs.Plans.{Graph}
use Rattle.valid_table.specs.Entries.{registered}
use Rattle.valid_table.specs.declared.entry.Entry.{Entry}
use Rattle.build_outcome.specs.Jobs.{seeds_of}
use Rattle.build_outcome.specs.declared.reason.Reason.{Reason}
use Rattle.build_outcome.specs.declared.reason.Reason.TheVariants.{NotAllowed, UnknownNar}
use Rattle.run_states.specs.Legal.{ArePermitted}
use Rattle.run_states.specs.declared.state.State.{State}
use Rattle.run_states.specs.declared.state.State.TheVariants.{Failed}

-- The path at an index of the rising list of the paths that are permitted to a derivation of a plan
-- after some entries; none past its end.
pub record IsPermittedAt (graph : Graph) (entries : List Entry) (d index : ℕ) (named : Option Path)
    : Type 0 where
  pub node : Node
  pub is_node : slice_get graph.nodes d ≡ Some node
  pub permitted : List Path
  pub are_permitted : ArePermitted (registered entries) (seeds_of graph.nodes node.drv)
      (output_paths_of node.drv) permitted
  pub is_at : named ≡ slice_get permitted index

-- the path that is named where a derivation failed for this reason
abbrev pub IsNamedBy : Graph → List Entry → (d : ℕ) → Reason → (named : Option Path) → Type 0
IsNamedBy graph entries d (NotAllowed output index) named =
    IsPermittedAt graph entries d index named
IsNamedBy graph entries d (UnknownNar index) named =
    IsPermittedAt graph entries d index named
IsNamedBy graph entries d reason named = named ≡ None

-- the path that is named in the line of a derivation in this state
abbrev pub IsNamedIn : Graph → List Entry → (d : ℕ) → State → (named : Option Path) → Type 0
IsNamedIn graph entries d (Failed reason) named = IsNamedBy graph entries d reason named
IsNamedIn graph entries d state named = named ≡ None

-- the path that a list has for the derivation with this number; none past the list's end
abbrev pub named_at : List (Option Path) → (d : ℕ) → Option Path
named_at named d = slice_index_or named d None
