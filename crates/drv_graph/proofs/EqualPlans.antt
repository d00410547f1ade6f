-- Plans that are equal by `==` are the same, if derivations are.
use Rattle.std.proofs.Common.{◌≡◌, ◌&&◌, ℕ, List, Decides, ap, nat_eq, rules}
use Rattle.std.specs.Cmp.Lexicographic.{bytes_decides, pointwise, pointwise_decides}
use Rattle.nix_names.proofs.Tests.{both_parts}
use Rattle.nix_drv.specs.Equality.{EqualDerivationsAreSame}
use Rattle.drv_graph.specs.Equality.{EqualPlansAreSame, same_node, same_profile}
use Rattle.drv_graph.specs.Nodes.{Node}
use Rattle.drv_graph.specs.Plans.{Graph}
use Rattle.drv_graph.specs.declared.profile.Profile.{Profile}
use Rattle.drv_graph.specs.declared.profile.Profile.TheVariants.{Plain, Nix}

profiles_decide : (a b : Profile) → Decides (same_profile a b) (a ≡ b)
profiles_decide Plain Plain = search rules
profiles_decide Plain Nix = search rules
profiles_decide Nix Plain = search rules
profiles_decide Nix Nix = search rules

module _ (drvs : EqualDerivationsAreSame) where
  nodes_decide : (a b : Node) → Decides (same_node a b) (a ≡ b)
  nodes_decide a b = search (rules, both_parts, nat_eq)

  -- a plan without its profile
  abbrev rest_of : Graph → List ℕ × List Node
  rest_of graph = (graph.roots, graph.nodes)

  rests_decide : (a b : Graph) → Decides
      (pointwise nat_eq a.roots b.roots && pointwise same_node a.nodes b.nodes)
      (rest_of a ≡ rest_of b)
  rests_decide a b =
      both_parts _ _
      (bytes_decides a.roots b.roots) (pointwise_decides nodes_decide a.nodes b.nodes)
      (λ p q j. (p j, q j)) (λ e. ap (λ (r : List ℕ × List Node). r.0) e)
      (λ e. ap (λ (r : List ℕ × List Node). r.1) e)

  pub equal_plans_are_same : EqualPlansAreSame
  equal_plans_are_same a b =
      both_parts _ _
      (profiles_decide a.profile b.profile) (rests_decide a b)
      (λ p q j. record { profile = p j; nodes = (q j).1; roots = (q j).0 })
      (λ e. ap (λ (g : Graph). g.profile) e)
      (λ e. ap rest_of e)
