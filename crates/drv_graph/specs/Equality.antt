-- What `==` answers for plans and their derivations.
use Rattle.std.specs.Prelude.{◌≡◌, ◌&&◌, ◌↔◌, ℕ, Bool, IsTrue, nat_eq}
use Rattle.std.specs.Cmp.{IsEquivalence, and_equiv, nat_eq_equiv, on_equiv}
use Rattle.std.specs.Cmp.Lexicographic.{lists_equiv, nat_list_eq_equiv, pointwise}
use Rattle.nix_drv.specs.Equality.{same_drv, same_drv_laws}
use Rattle.drv_graph.specs.Nodes.{Node}
use Rattle.drv_graph.specs.Plans.{Graph}
use Rattle.drv_graph.specs.PlanNodes.{node_of}
use Rattle.drv_graph.specs.declared.plans.node.PlanNode.{PlanNode}
use Rattle.drv_graph.specs.declared.profile.Profile.{Profile}
use Rattle.drv_graph.specs.declared.profile.Profile.TheVariants.{Plain, Nix}

-- whether two nodes have the same path and the same derivation
abbrev pub same_node : Node → Node → Bool
same_node a b = pointwise nat_eq a.path b.path && same_drv a.drv b.drv

-- a profile's index among the profiles
abbrev pub index_of : Profile → ℕ
index_of Plain = 0
index_of Nix = 1

-- whether two profiles are the same
abbrev pub same_profile : Profile → Profile → Bool
same_profile a b = nat_eq (index_of a) (index_of b)

-- whether two plans have the same profile, the same roots and the same nodes, in the same order
abbrev pub same_graph : Graph → Graph → Bool
same_graph a b = same_profile a.profile b.profile
    && (pointwise nat_eq a.roots b.roots && pointwise same_node a.nodes b.nodes)

-- whether two derivations of a plan are the same nodes; what is kept beside them isn't compared
abbrev pub nodes_equal : PlanNode → PlanNode → Bool
nodes_equal a b = same_node (node_of a) (node_of b)

-- `same_node` is an equivalence
pub same_node_laws : IsEquivalence same_node
same_node_laws = and_equiv (on_equiv (λ (n : Node). n.path) nat_list_eq_equiv)
    (on_equiv (λ (n : Node). n.drv) same_drv_laws)

-- `same_graph` is an equivalence
pub same_graph_laws : IsEquivalence same_graph
same_graph_laws =
    and_equiv (on_equiv (λ (g : Graph). index_of g.profile) nat_eq_equiv)
    (and_equiv (on_equiv (λ (g : Graph). g.roots) nat_list_eq_equiv)
    (on_equiv (λ (g : Graph). g.nodes) (lists_equiv same_node_laws)))

-- `nodes_equal` is an equivalence
pub nodes_equal_laws : IsEquivalence nodes_equal
nodes_equal_laws = on_equiv node_of same_node_laws

-- two plans are equal by `==` exactly where they are the same
abbrev pub EqualPlansAreSame : Type 0
EqualPlansAreSame = (a b : Graph) → IsTrue (same_graph a b) ↔ (a ≡ b)
