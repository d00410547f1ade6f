-- The paths that a plan of a store folder names are paths of that folder.
use Rattle.std.proofs.Common.{◌≡◌, ◌∙◌, ℕ, suc, true, List, [], ◌∷◌, All, drop, take, ap, subst, sym, ⊎_elim}
use Rattle.std.specs.Prelude.{Contains, Some, slice_get}
use Rattle.std.proofs.lemmas.List.Elements.{All-contains, Contains-append_cases}
use Rattle.sha2.specs.Sha256.{sha256}
use Rattle.nix_names.specs.Names.{is_name}
use Rattle.nix_names.specs.StorePaths.{IsDrvPath, IsPathOf, IsStorePath, name_of}
use Rattle.nix_names.proofs.Lists.{Contains-from_get, Contains-map, get_from_contains, split_get}
use Rattle.nix_names.proofs.PathDigests.{store_path_is_path}
use Rattle.nix_names.proofs.PathTexts.{name_is, name_of_is}
use Rattle.nix_drv.specs.Derivation.{Drv}
use Rattle.nix_drv.specs.OwnPath.{text_kind, text_path}
use Rattle.nix_drv.specs.Sources.{Answer as SourceAnswer}
use Rattle.drv_graph.specs.Kinds.{HasKind, Takes}
use Rattle.drv_graph.specs.Nodes.{Node, inputs_of}
use Rattle.drv_graph.specs.PlanNodes.{output_paths_of}
use Rattle.drv_graph.specs.Plans.{Graph, IsLawful, IsPlan, LeadsBy, MayBeAt, Uses}
use Rattle.drv_graph.specs.declared.kinds.Kind.{Kind}
use Rattle.drv_graph.specs.declared.kinds.Kind.TheVariants.{Addressed, Fixed}
use Rattle.drv_graph.proofs.KindAnswers.{one_kind}
use Rattle.drv_graph.proofs.InStore.{inputs_in_store, outputs_in_store, sources_in_store}
use Rattle.build_outcome.specs.Jobs.{named_outputs, seeds_of}
use Rattle.run_states.proofs.Dones.{part_with}
use Rattle.run_states.proofs.Seeds.{named_at}

-- the path of a text in a folder is one of the folder, where its name is one
text_in_store : (dir name bytes : List ℕ) (refs : List (List ℕ)) → is_name name ≡ true
    → IsPathOf dir (text_path dir name bytes refs)
unfolding text_path
text_in_store dir name bytes refs named =
    store_path_is_path (text_kind refs) (sha256 bytes) dir name named

-- a derivation of a kind has outputs
has_outputs : (drv : Drv) (kind : Kind) → HasKind drv kind → drv.outputs ≡ [] → ⊥
has_outputs drv Addressed is none = is.0 none
has_outputs drv (Fixed method digest) is none =
    let clash : [] ≡ is.0 ∷ [] = sym none ∙ is.1.0 in cc

module _ (dir : List ℕ) (gives : List ℕ → SourceAnswer → Type 0) (roots : List (List ℕ))
    (graph : Graph) (plan : IsPlan dir gives roots graph) (are_paths : All IsStorePath roots) where
  given : (node : Node) → Contains graph.nodes node → MayBeAt dir gives node.path node.drv
  given node has =
      All-contains (λ (n : Node). MayBeAt dir gives n.path n.drv) graph.nodes node plan.given has

  -- a derivation stands at the path of a derivation's file
  pub stands_named : (node : Node) → Contains graph.nodes node → IsDrvPath node.path
  stands_named node has = (given node has).found.read.named

  -- ---- the path of a derivation

  used_named : (from next : List ℕ) → Uses graph.nodes from next → is_name (name_of next) ≡ true
  used_named from next uses =
      let inputs = inputs_in_store dir uses.node.drv
      (given uses.node uses.is_node).found.in_store in
      let is : IsPathOf dir next = All-contains (IsPathOf dir) (inputs_of uses.node.drv) next inputs
      uses.is_input in
      ap is_name (name_is dir next is) ∙ is.named

  leads_named : (from to : List ℕ) (steps : List (List ℕ)) → is_name (name_of from) ≡ true
      → LeadsBy (Uses graph.nodes) from to steps → is_name (name_of to) ≡ true
  leads_named from to [] named leads = subst (λ p. is_name (name_of p) ≡ true) leads named
  leads_named from to (next ∷ steps) named leads =
      leads_named next to steps (used_named from next leads.0) leads.1

  node_named : (node : Node) → Contains graph.nodes node → is_name (name_of node.path) ≡ true
  node_named node has =
      let reached = plan.reached node.path
      (Contains-map (λ (n : Node). n.path) graph.nodes node has) in
      leads_named reached.root node.path reached.steps
      (name_of_is reached.root (All-contains IsStorePath roots reached.root are_paths
      reached.is_root)) reached.leads

  -- it is a path of the folder
  pub stands_in_store : (node : Node) → Contains graph.nodes node → IsPathOf dir node.path
  stands_in_store node has =
      let stands = given node has in
      let own = stands.found.own_path in
      subst (IsPathOf dir) (sym own.is_path)
      (text_in_store dir (name_of node.path) stands.bytes own.refs (node_named node has))

  -- ---- the paths of its outputs

  lawful : (node : Node) (n : ℕ) → slice_get graph.nodes n ≡ Some node
      → IsLawful graph.profile dir (take n graph.nodes) node
  lawful node n at =
      plan.lawful (take n graph.nodes) (drop (suc n) graph.nodes) node
      (split_get graph.nodes n node at)

  pub makes_in_store : (node : Node) → Contains graph.nodes node
      → All (IsPathOf dir) (output_paths_of node.drv)
  makes_in_store node has =
      let (n, at) = get_from_contains graph.nodes node has in
      let is = lawful node n at in
      outputs_in_store dir (take n graph.nodes) node is.kind is.right

  pub makes_some : (node : Node) → Contains graph.nodes node → node.drv.outputs ≡ [] → ⊥
  makes_some node has =
      let (n, at) = get_from_contains graph.nodes node has in
      let is = lawful node n at in
      has_outputs node.drv is.kind is.right.check.0.has_kind

  -- the profile takes the kind of its outputs
  pub kind_taken : (node : Node) → Contains graph.nodes node → (kind : Kind) → HasKind node.drv kind
      → Takes graph.profile kind
  kind_taken node has kind has_kind =
      let (n, at) = get_from_contains graph.nodes node has in
      let is = lawful node n at in
      subst (Takes graph.profile)
      (one_kind node.drv is.kind kind is.right.check.0.has_kind has_kind)
      is.right.check.0.taken

  -- ---- what it is built from

  pub seed_in_store : (node : Node) → Contains graph.nodes node → (path : List ℕ)
      → Contains (seeds_of graph.nodes node.drv) path → IsPathOf dir path
  seed_in_store node has path seed =
      ⊎_elim
      (λ source. All-contains (IsPathOf dir) node.drv.sources path
      (sources_in_store dir node.drv (given node has).found.in_store) source)
      (λ named.
      let part = part_with (named_outputs graph.nodes) node.drv.inputs path named in
      let at = named_at graph.nodes part.0 path part.2 in
      All-contains (IsPathOf dir) (output_paths_of at.0.drv) path
      (makes_in_store at.0 (Contains-from_get graph.nodes _ at.0 at.1)) at.2)
      (Contains-append_cases node.drv.sources _ path seed)
