-- Copies of paths and of what is kept.
use Rattle.std.proofs.Common.{◌≡◌, ℕ, ◌+◌, ◌<◌, List, [], ◌∷◌, ◌++◌, length, take, get_or, refl, sym, subst, rules}
use Rattle.std.specs.Prelude.{All}
use Rattle.std.specs.List.{AllZip}
use Rattle.std.proofs.lemmas.List.{take_more}
use Rattle.std.proofs.lemmas.List.Elements.{All-cons, All-head, All-tail}
use Rattle.drv_graph.specs.Nodes.{Node}
use Rattle.drv_graph.specs.Plans.{Graph}
use Rattle.drv_graph.specs.SoundGraphs.{IsSound}
use Rattle.drv_graph.specs.PlanNodes.{AreKept, IsPlanNode, IsSameNode, nodes_of}
use Rattle.drv_graph.specs.declared.plans.node.PlanNode.{PlanNode}
use Rattle.drv_graph.specs.declared.profile.Profile.{Profile}

-- one path more was copied
pub copied_more : (paths copies : List (List ℕ)) (i : ℕ) (path copy : List ℕ) → i < length paths
    → path ≡ get_or paths i path → copies ≡ take i paths → copy ≡ path → copies ++ copy ∷ []
    ≡ take (i + 1) paths
copied_more paths copies i path copy lt is same copied = search (rules, take_more)

-- copies are seen as the same nodes
pub same_nodes : (xs ys : List PlanNode) → AllZip IsSameNode xs ys → nodes_of ys ≡ nodes_of xs
same_nodes [] [] zip = refl
same_nodes [] (y ∷ ys) zip = absurd zip
same_nodes (x ∷ xs) [] zip = absurd zip
same_nodes (x ∷ xs) (y ∷ ys) zip = search (rules, same_nodes xs ys zip.1)

same_kept : (nodes : List Node) (x y : PlanNode) → IsSameNode x y → IsPlanNode nodes x
    → IsPlanNode nodes y
same_kept nodes x y same right = search rules

all_kept : (nodes : List Node) (xs ys : List PlanNode) → AllZip IsSameNode xs ys
    → All (IsPlanNode nodes) xs → All (IsPlanNode nodes) ys
all_kept nodes [] [] zip right = right
all_kept nodes [] (y ∷ ys) zip right = absurd zip
all_kept nodes (x ∷ xs) [] zip right = absurd zip
all_kept nodes (x ∷ xs) (y ∷ ys) zip right =
    search (
      rules,
      All-cons,
      same_kept,
      All-head,
      All-tail,
      all_kept nodes xs ys zip.1 (All-tail (IsPlanNode nodes) x xs right),
    )

-- copies are kept right
pub kept_copies : (xs ys : List PlanNode) → AllZip IsSameNode xs ys → AreKept xs → AreKept ys
kept_copies xs ys zip right = subst (λ ns. All (IsPlanNode ns) ys) (sym (same_nodes _ _ zip))
    (all_kept _ _ _ zip right)

-- a copied plan is seen as the same graph
pub same_graph : (profile : Profile) (xs ys : List PlanNode) (roots others : List ℕ)
    → AllZip IsSameNode xs ys → others
    ≡ roots → ◌≡◌ {A = Graph} (record { profile = profile; nodes = nodes_of ys; roots = others })
    (record { profile = profile; nodes = nodes_of xs; roots = roots })
same_graph profile xs ys roots others zip same = let nodes = same_nodes _ _ zip in cc

-- and is right
pub copy_sound : (profile : Profile) (xs ys : List PlanNode) (roots others : List ℕ)
    → AllZip IsSameNode xs ys → others
    ≡ roots → AreKept xs × IsSound
    (record { profile = profile; nodes = nodes_of xs; roots = roots }) → AreKept ys
    × IsSound (record { profile = profile; nodes = nodes_of ys; roots = others })
copy_sound profile xs ys roots others zip same right = (
  kept_copies _ _ zip right.0,
  subst IsSound (sym (same_graph _ _ _ _ _ zip same))
      right.1,
)
