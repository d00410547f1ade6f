-- *Job*: what is to be built for a derivation of a plan, and the paths that it is built from (Nix
-- manual, "Building"; Dolstra's thesis, section 5.5).
use Rattle.std.specs.Prelude.{◌≡◌, ℕ, Bool, Option, Some, None, List, [], ◌∷◌, ◌++◌, map, flat_map, filter, find, if◌then◌else◌, slice_get}
use Rattle.std.specs.List.{list_all, list_any}
use Rattle.nix_names.specs.Bytes.{Path, Name}
use Rattle.nix_names.specs.Names.{same_bytes}
use Rattle.nix_drv.specs.Derivation.{Drv, Input, Output}
use Rattle.nix_drv.specs.Parts.{bytes_of, entry_of}
use Rattle.drv_graph.specs.Kinds.{HasKind}
use Rattle.drv_graph.specs.Nodes.{Node}
use Rattle.drv_graph.specs.PlanNodes.{output_paths_of}
use Rattle.drv_graph.specs.Plans.{Graph}
use Rattle.drv_graph.specs.declared.profile.Profile.{Profile}
use Rattle.drv_graph.specs.declared.profile.Profile.TheVariants.{Nix, Plain}
use Rattle.build_outcome.specs.declared.job.Job.{Job}
use Rattle.build_outcome.specs.declared.job.JobOutput.{JobOutput}
use Rattle.build_outcome.specs.declared.job.WholeInput.{WholeInput}

-- the paths of those of a derivation's outputs that have one of these names
abbrev pub paths_named : (names : List Name) → Drv → List Path
paths_named names drv = map (λ (o : Output). o.path)
    (filter (λ (o : Output). list_any (same_bytes o.name) names) drv.outputs)

-- the paths of the outputs with these names, of a node if there is one
abbrev pub paths_of_found : (names : List Name) → Option Node → List Path
paths_of_found names (Some node) = paths_named names node.drv
paths_of_found names None = []

-- the outputs that an input names, of the derivation at its path
abbrev pub named_outputs : List Node → Input → List Path
named_outputs nodes input = paths_of_found input.names
    (find (λ (n : Node). same_bytes input.path n.path) nodes)

-- the paths that a derivation is built from: its sources, then the named outputs of each input, in
-- the text's order
abbrev pub seeds_of : List Node → Drv → List Path
seeds_of nodes drv = drv.sources ++ flat_map (named_outputs nodes) drv.inputs

-- whether each output of a derivation has one of these names
abbrev pub are_all_named : (names : List Name) → Drv → Bool
are_all_named names drv =
    list_all (λ (o : Output). list_any (same_bytes o.name) names) drv.outputs

-- the path of a node with the paths of its outputs, if there is a node and each output has one of
-- these names
abbrev pub whole_of_found : (names : List Name) → Option Node → List (Path × List Path)
whole_of_found names (Some node) =
    if are_all_named names node.drv then (node.path, output_paths_of node.drv) ∷ [] else []
whole_of_found names None = []

-- the path of an input derivation with the paths of its outputs, if it names each of them
abbrev pub whole_input : List Node → Input → List (Path × List Path)
whole_input nodes input = whole_of_found input.names
    (find (λ (n : Node). same_bytes input.path n.path) nodes)

-- the input derivations of which each output is named, in the text's order; only the profile `nix`
-- tells them
abbrev pub whole_inputs_of : Profile → List Node → Drv → List (Path × List Path)
whole_inputs_of Plain nodes drv = []
whole_inputs_of Nix nodes drv = flat_map (whole_input nodes) drv.inputs

-- the derivation and the outputs' paths of a job's whole input
abbrev pub shown_whole : WholeInput → Path × List Path
shown_whole whole = (whole.drv, whole.outputs.items)

-- The job of the derivation with this number, under the plan's profile.
pub record IsJob (graph : Graph) (d : ℕ) (job : Job) : Type 0 where
  pub node : Node
  pub is_node : slice_get graph.nodes d ≡ Some node
  pub derivation : job.derivation ≡ d
  pub profile : job.profile ≡ graph.profile
  pub builder : job.builder.items ≡ node.drv.builder
  pub args : map bytes_of job.args.items ≡ node.drv.args
  pub env : map entry_of job.env.items ≡ node.drv.env
  pub names : map (λ (o : JobOutput). o.name.items) job.outputs.items
      ≡ map (λ (o : Output). o.name) node.drv.outputs
  pub paths : map (λ (o : JobOutput). o.path) job.outputs.items ≡ output_paths_of node.drv
  pub kind : HasKind node.drv job.kind
  pub seeds : job.seeds.items ≡ seeds_of graph.nodes node.drv
  pub whole_inputs : map shown_whole job.whole_inputs.items
      ≡ whole_inputs_of graph.profile graph.nodes node.drv
