-- The inputs of a plan's derivations, by their numbers.
use Rattle.std.proofs.Common.{◌≡◌, ◌∙◌, ℕ, suc, ◌<◌, false, List, [], ◌∷◌, ◌++◌, length, map, take, drop, get_or, Option, Some, None, refl, sym, ap, subst, arith, nat_eq, rules}
use Rattle.std.specs.Prelude.{Contains, IfSome, slice_get}
use Rattle.std.specs.Cmp.Lexicographic.{pointwise, nat_list_eq_equiv}
use Rattle.std.specs.List.{position_or_len}
use Rattle.std.proofs.Math.Seq.{split_at}
use Rattle.std.proofs.lemmas.List.{length-map, length-take-le}
use Rattle.std.proofs.lemmas.List.Sums.{position_or_len_is}
use Rattle.std.proofs.lemmas.Option.{get_or_from_slice_get, slice_get-get_or, slice_get_within}
use Rattle.nix_names.specs.Names.{same_bytes}
use Rattle.drv_graph.proofs.Kept.{drvs_paths}
use Rattle.drv_graph.specs.Loading.{AreDistinct}
use Rattle.drv_graph.specs.Nodes.{Node, inputs_of, paths_of}
use Rattle.drv_graph.specs.Plans.{AreNumbers, Graph}
use Rattle.drv_graph.specs.SoundGraphs.{IsSound}
use Rattle.drv_graph.proofs.Numbers.{first_number, later_numbers, number_grows}
use Rattle.drv_graph.proofs.PathLists.{other_path, same_index}
use Rattle.run_states.specs.PlanLaws.{RowsInOrder}
use Rattle.run_states.specs.Runs.{inputs_at}
use Rattle.run_states.proofs.EarlierTwins.{twins_first}
use Rattle.nix_names.proofs.Lists.{Contains-from_map, Contains-nothing, element_at, get_from_contains}

-- a path is found at its index
index_is : (paths : List (List ℕ)) (n : ℕ) (path : List ℕ) → AreDistinct paths → slice_get paths n
    ≡ Some path → position_or_len (same_bytes path) paths ≡ n
index_is paths n path once at =
    let low : n < length paths = slice_get_within paths n path at in
    let here : get_or paths n [] ≡ path = get_or_from_slice_get _ n _ [] at in
    let apart : (k : ℕ) → k < n → pointwise nat_eq path (get_or paths k []) ≡ false = λ k less.
    other_path _ _ (λ same.
    let there : slice_get paths k ≡ Some path =
    slice_get-get_or _ k [] (omega (arith, less, low)) ∙ ap Some (sym same) in
    let index : k ≡ n = same_index _ k n _ once there at in
    omega (arith, less, index)) in
    position_or_len_is (same_bytes path) _ n [] (omega (arith, low)) apart
    (λ within. ap (pointwise nat_eq path) here ∙ nat_list_eq_equiv.refl path)

-- numbers of paths are the indices at which these are found
pub numbers_are : (nodes : List Node) (ns : List ℕ) (paths : List (List ℕ))
    → AreDistinct (paths_of nodes) → AreNumbers nodes ns paths → ns
    ≡ map (λ path. position_or_len (same_bytes path) (paths_of nodes)) paths
numbers_are nodes [] [] once are = refl
numbers_are nodes [] (p ∷ ps) once are = absurd cc
numbers_are nodes (n ∷ ns) [] once are = absurd cc
numbers_are nodes (n ∷ ns) (p ∷ ps) once are =
    search (
      rules,
      index_is,
      first_number,
      later_numbers,
      numbers_are nodes ns ps once (later_numbers nodes n ns p ps are),
    )

-- an input is found before its user
path_before : (graph : Graph) (d : ℕ) (node : Node) (path : List ℕ) → IsSound graph
    → slice_get graph.nodes d ≡ Some node → Contains (inputs_of node.drv) path
    → position_or_len (same_bytes path) (paths_of graph.nodes) < d
path_before graph d node path sound at has =
    let lt : d < length graph.nodes = slice_get_within graph.nodes d node at in
    let read : get_or graph.nodes d node ≡ node = get_or_from_slice_get _ d _ _ at
    in
    let parts : graph.nodes ≡ take d graph.nodes ++ node ∷ drop (suc d) graph.nodes =
    split_at graph.nodes d node lt
    ∙ ap (λ (m : Node). take d graph.nodes ++ m ∷ drop (suc d) graph.nodes) read in
    let lawful = sound.lawful (take d graph.nodes) (drop (suc d) graph.nodes) node parts in
    let before : Contains (paths_of (take d graph.nodes)) path =
    drvs_paths _ _ _ lawful.right.are_used
    _ has in
    let index = get_from_contains _ _ before in
    let there : slice_get (paths_of graph.nodes) index.0 ≡ Some path =
    subst (λ l. slice_get (paths_of l) index.0 ≡ Some path) (sym parts)
    (number_grows (take d graph.nodes) (node ∷ drop (suc d) graph.nodes) index.0 _ index.1)
    in
    let same = index_is _ _ _ sound.distinct there in
    let low : index.0 < length (paths_of (take d graph.nodes)) =
    slice_get_within (paths_of (take d graph.nodes)) index.0 path index.1 in
    omega (
      arith,
      same,
      low,
      length-map (take d graph.nodes) (λ (m : Node). m.path),
      length-take-le d graph.nodes (omega (arith, lt)),
    )

-- the inputs of each derivation have smaller numbers
pub inputs_first : (graph : Graph) → IsSound graph → (d i : ℕ)
    → Contains (inputs_at graph.nodes (slice_get graph.nodes d)) i → i < d
inputs_first graph sound d i has = by (slice_get graph.nodes d) refl has
  where
    by : (node : Option Node) → slice_get graph.nodes d ≡ node
        → Contains (inputs_at graph.nodes node) i → i < d
    by None at has = absurd (Contains-nothing i has)
    by (Some node) at has =
        let found = Contains-from_map
        (λ path. position_or_len (same_bytes path) (paths_of graph.nodes)) _
        i has in
        subst (λ n. n < d) found.2 (path_before _ d _ _ sound at found.1)

-- what the state of each derivation follows from has smaller numbers
pub rows_in_order : RowsInOrder
rows_in_order run opening events sound = search (rules, inputs_first, twins_first)

-- the numbers of a derivation's inputs are those of its row
pub numbers_at : (graph : Graph) (d : ℕ) (ns : List ℕ) → d < length graph.nodes → IsSound graph
    → IfSome (slice_get graph.nodes d) (λ node. AreNumbers graph.nodes ns (inputs_of node.drv)) → ns
    ≡ inputs_at graph.nodes (slice_get graph.nodes d)
numbers_at graph d ns low sound are = by (element_at _ d low).0
    (element_at _ d low).1
  where
    by : (node : Node) → slice_get graph.nodes d ≡ Some node → ns
        ≡ inputs_at graph.nodes (slice_get graph.nodes d)
    by node at = search (rules, numbers_are)
