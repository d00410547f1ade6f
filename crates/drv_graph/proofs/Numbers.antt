-- The numbers of paths among nodes, and the hashes of nodes, as nodes are added.
use Rattle.std.proofs.Common.{◌≡◌, ℕ, ◌<◌, List, [], ◌∷◌, ◌++◌, length, Some, rules}
use Rattle.std.specs.Prelude.{All, slice_get}
use Rattle.std.proofs.lemmas.List.{length-map, map-append, map_push}
use Rattle.std.proofs.lemmas.List.Elements.{All-cons, All-nil, Contains-append_left}
use Rattle.std.proofs.lemmas.Option.{slice_get_within}
use Rattle.drv_graph.specs.Nodes.{Node, AreHashes, paths_of}
use Rattle.drv_graph.specs.Nodes.AreHashes.{no_hashes, one_more_hash}
use Rattle.drv_graph.specs.Plans.{AreNumbers}
use Rattle.nix_names.proofs.Lists.{get_grows}

-- paths of more nodes
pub paths_append : (nodes more : List Node) → paths_of (nodes ++ more) ≡ paths_of nodes
    ++ paths_of more
paths_append nodes more = map-append (λ (n : Node). n.path) nodes more

-- a path keeps its number
pub number_grows : (nodes more : List Node) (number : ℕ) (path : List ℕ)
    → slice_get (paths_of nodes) number ≡ Some path → slice_get (paths_of (nodes ++ more)) number
    ≡ Some path
number_grows nodes more number path is = search (rules, paths_append, get_grows)

pub first_number : (nodes : List Node) (n : ℕ) (ns : List ℕ) (p : List ℕ) (ps : List (List ℕ))
    → AreNumbers nodes (n ∷ ns) (p ∷ ps) → slice_get (paths_of nodes) n ≡ Some p
first_number nodes n ns p ps e = cc

pub later_numbers : (nodes : List Node) (n : ℕ) (ns : List ℕ) (p : List ℕ) (ps : List (List ℕ))
    → AreNumbers nodes (n ∷ ns) (p ∷ ps) → AreNumbers nodes ns ps
later_numbers nodes n ns p ps e = cc

-- one more number
pub number_first : (nodes : List Node) (n : ℕ) (ns : List ℕ) (p : List ℕ) (ps : List (List ℕ))
    → slice_get (paths_of nodes) n ≡ Some p → AreNumbers nodes ns ps
    → AreNumbers nodes (n ∷ ns) (p ∷ ps)
number_first nodes n ns p ps is rest = cc

-- numbers stay those of their paths
pub numbers_grow : (nodes more : List Node) (ns : List ℕ) (ps : List (List ℕ))
    → AreNumbers nodes ns ps → AreNumbers (nodes ++ more) ns ps
numbers_grow nodes more [] ps e = e
numbers_grow nodes more (n ∷ ns) [] e = absurd cc
numbers_grow nodes more (n ∷ ns) (p ∷ ps) e =
    search (
      rules,
      number_first,
      number_grows,
      first_number,
      later_numbers,
      numbers_grow nodes more ns ps (later_numbers nodes n ns p ps e),
    )

-- one number more, at the end
pub numbers_push : (nodes : List Node) (ns : List ℕ) (ps : List (List ℕ)) (n : ℕ) (p : List ℕ)
    → AreNumbers nodes ns ps → slice_get (paths_of nodes) n ≡ Some p
    → AreNumbers nodes (ns ++ n ∷ []) (ps ++ p ∷ [])
numbers_push nodes ns ps n p e is = search (rules, map_push)

-- as many numbers as paths
pub numbers_length : (nodes : List Node) (ns : List ℕ) (ps : List (List ℕ)) → AreNumbers nodes ns ps
    → length ns ≡ length ps
numbers_length nodes ns ps e = search (rules, length-map)

-- each is a node's
pub numbers_within : (nodes : List Node) (ns : List ℕ) (ps : List (List ℕ)) → AreNumbers nodes ns ps
    → All (λ n. n < length nodes) ns
numbers_within nodes [] ps e = All-nil (λ n. n < length nodes)
numbers_within nodes (n ∷ ns) [] e = absurd cc
numbers_within nodes (n ∷ ns) (p ∷ ps) e =
    search (
      rules,
      slice_get_within,
      first_number,
      All-cons,
      length-map,
      later_numbers,
      numbers_within nodes ns ps (later_numbers _ n _ p _ e),
    )

-- hashes stay those of their paths
pub hashes_grow : {nodes : List Node} {paths hashes : List (List ℕ)} (more : List Node)
    → AreHashes nodes paths hashes → AreHashes (nodes ++ more) paths hashes
hashes_grow more no_hashes = no_hashes
hashes_grow {nodes = nodes} more
    (one_more_hash node kind of_inputs hash paths hashes is_node has_kind of is_hash rest) =
    one_more_hash node kind of_inputs hash paths hashes
    (Contains-append_left _ _ _ is_node) has_kind (hashes_grow _ of) is_hash
    (hashes_grow _ rest)
