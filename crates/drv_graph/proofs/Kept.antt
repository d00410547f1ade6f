-- The derivations of a plan, by their numbers.
use Rattle.std.proofs.Common.{◌≡◌, ◌∙◌, ℕ, ◌<◌, ◌≤◌, suc, List, [], ◌∷◌, ◌++◌, length, take, drop, get_or, sym, ap, subst, ⊎_elim, arith, Some, rules}
use Rattle.std.specs.Prelude.{All, Contains, slice_get}
use Rattle.std.specs.List.{position_or_len}
use Rattle.std.proofs.Math.Seq.{split_at}
use Rattle.std.proofs.lemmas.List.{length-map, length-take-le}
use Rattle.std.proofs.lemmas.List.Elements.{All-contains}
use Rattle.std.proofs.lemmas.Option.{get_or_from_slice_get, slice_get_read, slice_get_within}
use Rattle.nix_names.specs.StorePaths.{IsDrvPath}
use Rattle.nix_drv.specs.Derivation.{Drv}
use Rattle.drv_graph.specs.Loading.{AreDistinct}
use Rattle.drv_graph.specs.Nodes.{Node, inputs_of, paths_of}
use Rattle.drv_graph.specs.Plans.{AreDrvsOf, AreNumbers, Graph}
use Rattle.drv_graph.specs.PlanNodes.{AreKept, IsPlanNode, drvs_of, node_of, nodes_of}
use Rattle.drv_graph.specs.SoundGraphs.{IsSound}
use Rattle.drv_graph.specs.Twins.{are_twins_at, first_twin_of}
use Rattle.drv_graph.specs.declared.plans.node.PlanNode.{PlanNode}
use Rattle.drv_graph.proofs.FirstTwins.{first_within}
use Rattle.drv_graph.proofs.Numbers.{number_grows}
use Rattle.drv_graph.proofs.PathLists.{same_index}
use Rattle.drv_graph.proofs.Roots.{number_source}
use Rattle.nix_names.proofs.Lists.{All-from_contains, Contains-cons_cases, Contains-from_get, Contains-map, Contains-nothing, get_from_contains, get_mapped}
use Rattle.drv_graph.specs.declared.profile.Profile.{Profile}

-- the derivation that is kept with a number
kept_at : (kept : List PlanNode) (n : ℕ) (node : PlanNode) → n < length (nodes_of kept) → node
    ≡ get_or kept n node → slice_get kept n ≡ Some node
kept_at kept n node lt is = search (rules, slice_get_read, length-map)

pub kept_node : (kept : List PlanNode) (n : ℕ) (node : PlanNode) → n < length (nodes_of kept) → node
    ≡ get_or kept n node → slice_get (nodes_of kept) n ≡ Some (node_of node)
kept_node kept n node lt is = search (rules, get_mapped, kept_at)

pub kept_drv : (kept : List PlanNode) (n : ℕ) (node : PlanNode) → n < length (nodes_of kept) → node
    ≡ get_or kept n node → slice_get (drvs_of (nodes_of kept)) n ≡ Some node.drv
kept_drv kept n node lt is = search (rules, get_mapped, kept_node)

pub kept_path : (kept : List PlanNode) (n : ℕ) (node : PlanNode) → n < length (nodes_of kept) → node
    ≡ get_or kept n node → slice_get (paths_of (nodes_of kept)) n ≡ Some node.path
kept_path kept n node lt is = search (rules, get_mapped, kept_node)

-- its path has the name of a derivation's file
pub kept_named : {profile : Profile} (kept : List PlanNode) (roots : List ℕ) (n : ℕ)
    (node : PlanNode) → n
    < length (nodes_of kept) → node ≡ get_or kept n node
    → IsSound (record { profile = profile; nodes = nodes_of kept; roots = roots })
    → IsDrvPath node.path
kept_named kept roots n node lt is sound =
    search (rules, All-contains, Contains-from_get, kept_node)

-- the paths of its outputs are kept, each once
pub kept_distinct : {profile : Profile} (kept : List PlanNode) (roots : List ℕ) (n : ℕ)
    (node : PlanNode) → n
    < length (nodes_of kept) → node ≡ get_or kept n node → AreKept kept
    → IsSound (record { profile = profile; nodes = nodes_of kept; roots = roots })
    → AreDistinct node.outputs.items
kept_distinct kept roots n node lt is are sound =
    search (rules, All-contains, Contains-from_get, kept_at, kept_node)

-- the number of its first twin is kept
pub kept_first : (kept : List PlanNode) (n : ℕ) (node : PlanNode) → n < length (nodes_of kept)
    → node ≡ get_or kept n node → AreKept kept → node.first ≡ first_twin_of (nodes_of kept) n
kept_first kept n node lt is are =
    let own : IsPlanNode (nodes_of kept) node =
    All-contains (IsPlanNode (nodes_of kept)) _ _ are
    (Contains-from_get _ n _ (kept_at _ n _ lt is)) in
    own.first
    ∙ ap (λ o. position_or_len (λ (m : Node). are_twins_at (Some m) o) (nodes_of kept))
    (sym (kept_node _ n _ lt is))

-- it is no greater
pub kept_first_within : (kept : List PlanNode) (n : ℕ) (node : PlanNode)
    → n < length (nodes_of kept) → node ≡ get_or kept n node → AreKept kept → node.first ≤ n
kept_first_within kept n node lt is are = search (rules, first_within, kept_first)

-- what is used stands among the nodes
pub drvs_paths : (nodes : List Node) (paths : List (List ℕ)) (drvs : List Drv)
    → AreDrvsOf nodes paths drvs → (path : List ℕ) → Contains paths path
    → Contains (paths_of nodes) path
drvs_paths nodes [] drvs are path has = absurd (Contains-nothing _ has)
drvs_paths nodes (p ∷ ps) [] are path has = absurd are
drvs_paths nodes (p ∷ ps) (d ∷ ds) are path has =
    ⊎_elim (λ same. subst (Contains (paths_of nodes)) same
    (Contains-map (λ (m : Node). m.path) _ _ are.0))
    (λ later. drvs_paths nodes ps ds are.1 path later) (Contains-cons_cases p ps path has)

-- a node's inputs have smaller numbers
smaller : (graph : Graph) (d : ℕ) (node : Node) (ns : List ℕ) → IsSound graph
    → slice_get graph.nodes d ≡ Some node → AreNumbers graph.nodes ns (inputs_of node.drv) → (n : ℕ)
    → Contains ns n → n < d
smaller graph d node ns sound at numbers n has =
    let nodes = graph.nodes in
    let lt : d < length graph.nodes = slice_get_within graph.nodes d node at in
    let read : get_or graph.nodes d node ≡ node = get_or_from_slice_get _ d _ _ at
    in
    let parts : graph.nodes ≡ take d graph.nodes ++ node ∷ drop (suc d) graph.nodes =
    split_at graph.nodes d node lt
    ∙ ap (λ (m : Node). take d graph.nodes ++ m ∷ drop (suc d) graph.nodes) read in
    let lawful = sound.lawful (take d graph.nodes) (drop (suc d) graph.nodes) node parts in
    let its = number_source _ _ _ n numbers has in
    let before : Contains (paths_of (take d graph.nodes)) its.0 =
    drvs_paths _ _ _ lawful.right.are_used
    _ its.1 in
    let index = get_from_contains _ _ before in
    let there : slice_get (paths_of graph.nodes) index.0 ≡ Some its.0 =
    subst (λ l. slice_get (paths_of l) index.0 ≡ Some its.0) (sym parts)
    (number_grows (take d graph.nodes) (node ∷ drop (suc d) graph.nodes) index.0 _ index.1)
    in
    let same : n ≡ index.0 = same_index _ n _ _ sound.distinct its.2
    there in
    let low : index.0 < length (paths_of (take d graph.nodes)) =
    slice_get_within (paths_of (take d graph.nodes)) index.0 its.0 index.1 in
    omega (
      arith,
      same,
      low,
      length-map (take d graph.nodes) (λ (m : Node). m.path),
      length-take-le d graph.nodes (omega (arith, lt)),
    )

pub inputs_smaller : {profile : Profile} (kept : List PlanNode) (roots : List ℕ) (d : ℕ)
    (node : PlanNode) → d
    < length (nodes_of kept) → node ≡ get_or kept d node → AreKept kept
    × IsSound (record { profile = profile; nodes = nodes_of kept; roots = roots }) → All
    (λ n. n < d) node.inputs.items
inputs_smaller kept roots d node lt is right =
    let own : IsPlanNode (nodes_of kept) node =
    All-contains (IsPlanNode (nodes_of kept)) _ _ right.0
    (Contains-from_get _ d _ (kept_at _ d _ lt is)) in
    All-from_contains (λ n. n < d) _
    (smaller _ d _
    _ right.1 (kept_node _ d _ lt is) own.numbers)
