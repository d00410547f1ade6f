-- What is kept beside a derivation of a plan.
use Rattle.std.specs.Prelude.{◌≡◌, List, map, All}
use Rattle.std.specs.List.{position_or_len}
use Rattle.nix_names.specs.Bytes.{Path, Hash}
use Rattle.nix_drv.specs.Derivation.{Drv}
use Rattle.nix_drv.specs.declared.derivation.Output.{Output as OutputStruct}
use Rattle.drv_graph.specs.Kinds.{HasKind}
use Rattle.drv_graph.specs.Nodes.{Node, AreHashes, IsHashBy, inputs_of}
pub use Rattle.drv_graph.specs.Nodes.{output_paths_of}
use Rattle.drv_graph.specs.Plans.{AreNumbers}
use Rattle.drv_graph.specs.Twins.{are_twins}
use Rattle.drv_graph.specs.declared.kinds.Kind.{Kind}
use Rattle.drv_graph.specs.declared.plans.node.PlanNode.{PlanNode}

-- a derivation of a plan, as the plan's definition has it
abbrev pub node_of : PlanNode → Node
node_of kept = record { path = kept.path; drv = kept.drv }

-- derivations of a plan, as the plan's definition has them
abbrev pub nodes_of : List PlanNode → List Node
nodes_of kept = map node_of kept

-- A hash is the modulo hash of a derivation of this kind, whose inputs are among some nodes.
pub record HasHash (nodes : List Node) (drv : Drv) (kind : Kind) (hash : Hash) : Type 0 where
  pub of_inputs : List Hash
  pub are_hashes : AreHashes nodes (inputs_of drv) of_inputs
  pub is_hash : IsHashBy kind drv of_inputs hash

-- What is kept beside a derivation is right; `first` is the number of its first twin.
pub record IsPlanNode (nodes : List Node) (kept : PlanNode) : Type 0 where
  pub numbers : AreNumbers nodes kept.inputs.items (inputs_of kept.drv)
  pub has_kind : HasKind kept.drv kept.kind
  pub has_hash : HasHash nodes kept.drv kept.kind kept.hash
  pub outputs : kept.outputs.items ≡ output_paths_of kept.drv
  pub sources : kept.sources.items ≡ kept.drv.sources
  pub first : kept.first ≡ position_or_len (λ (n : Node). are_twins n.drv kept.drv) nodes

-- what is kept beside each derivation of a plan is right
abbrev pub AreKept : List PlanNode → Type 0
AreKept kept = All (IsPlanNode (nodes_of kept)) kept

-- the path of an output, as its text has it
abbrev pub text_path_of : OutputStruct → Path
text_path_of output = output.path.items

-- the derivations of nodes
abbrev pub drvs_of : List Node → List Drv
drvs_of nodes = map (λ (n : Node). n.drv) nodes

-- A derivation of a plan is the same as another, with all that is kept beside it.
pub record IsSameNode (node copy : PlanNode) : Type 0 where
  pub path : copy.path ≡ node.path
  pub drv : copy.drv ≡ node.drv
  pub kind : copy.kind ≡ node.kind
  pub hash : copy.hash ≡ node.hash
  pub inputs : copy.inputs.items ≡ node.inputs.items
  pub outputs : copy.outputs.items ≡ node.outputs.items
  pub sources : copy.sources.items ≡ node.sources.items
  pub first : copy.first ≡ node.first
