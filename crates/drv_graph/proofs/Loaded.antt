-- All that some roots reach: what was left after the first roots, and the plan after all of them.
use Rattle.std.proofs.Common.{◌≡◌, ℕ, ◌+◌, ◌≤◌, List, [], ◌∷◌, ◌++◌, length, take, refl, sym, subst, nat_eq, None, rules}
use Rattle.std.specs.Prelude.{All, Contains}
use Rattle.std.specs.Cmp.Lexicographic.{pointwise}
use Rattle.std.specs.List.{IsDistinct}
use Rattle.std.proofs.lemmas.List.{length-map, take_all}
use Rattle.std.proofs.lemmas.List.Elements.{All-contains_itself, All-nil}
use Rattle.indexmap.specs.IndexMap.{IndexMap, get, keys}
use Rattle.indexmap.specs.IndexSet.{insert_key}
use Rattle.nix_names.proofs.Lists.{All-left}
use Rattle.nix_drv.specs.Sources.{Answer, GivesSame}
use Rattle.drv_graph.specs.Loading.{AreDistinct, max_nodes}
use Rattle.drv_graph.specs.Nodes.{Node, output_paths_of, paths_of}
use Rattle.drv_graph.specs.private.Owners.{AreOwners, outputs_of, owned}
use Rattle.drv_graph.specs.Plans.{AreLawful, AreLeft, AreNumbers, Graph, IsPlan, IsReachedBy, MayBeAt, MayUse, each_once}
use Rattle.drv_graph.specs.Plans.AreLeft.{none_left}
use Rattle.drv_graph.specs.PlanNodes.{AreKept, IsPlanNode, nodes_of}
use Rattle.drv_graph.specs.SoundGraphs.{IsSound}
use Rattle.drv_graph.specs.private.Walks.{AreMarks, IsEmptyWalk, IsReachedAll, IsVisited, IsWalked, marked}
use Rattle.drv_graph.specs.declared.walks.walk_state.WalkState.{WalkState}
use Rattle.drv_graph.proofs.Marks.{marks_none}
use Rattle.drv_graph.proofs.Numbers.{numbers_grow, numbers_within}
use Rattle.drv_graph.proofs.OwnOutputs.{all_named}
use Rattle.drv_graph.proofs.Owners.{owners_none}
use Rattle.drv_graph.proofs.PlanOrder.{left_append, plan_reached, plan_whole}
use Rattle.drv_graph.proofs.Roots.{roots_more}
use Rattle.drv_graph.proofs.SameSources.{walked_by}
use Rattle.drv_graph.specs.declared.profile.Profile.{Profile}

-- What the first roots reach was left, in plan order, and these are their numbers.
pub record IsReachedSome (profile : Profile) (dir : List ℕ) (gives : List ℕ → Answer → Type 0)
    (roots done : List (List ℕ)) (found : WalkState) (numbers : List ℕ) : Type 0 where
  pub walked : IsWalked profile dir gives roots found []
  pub in_order : (nodes : List Node) → All (Contains nodes) (nodes_of found.nodes.items)
      → AreLeft nodes [] done (paths_of (nodes_of found.nodes.items))
  pub are_numbers : AreNumbers (nodes_of found.nodes.items) numbers (each_once done)
  pub once : IsDistinct nat_eq numbers

no_nodes : {profile : Profile} (dir : List ℕ) → AreLawful profile dir []
no_nodes dir [] after node parts = absurd cc
no_nodes dir (x ∷ xs) after node parts = absurd cc

empty_get : {X S : Type 0} (m : IndexMap (List ℕ) X S) → m.entries ≡ [] → (path : List ℕ)
    → get (pointwise nat_eq) m path ≡ None
empty_get m none path = search (rules, nat_eq)

distinct_none : IsDistinct (pointwise nat_eq) []
unfolding IsDistinct
distinct_none = tt

no_keys : (found : WalkState) → IsEmptyWalk found → length (keys found.marks)
    ≡ length found.nodes.items + 0
no_keys found empty = search rules

no_more : (found : WalkState) → IsEmptyWalk found → length (keys found.marks) ≤ max_nodes
no_more found empty = search (rules, no_keys)

-- nothing was left yet
pub loading_begins : {profile : Profile} (dir : List ℕ) (gives : List ℕ → Answer → Type 0)
    (roots : List (List ℕ))
    (found : WalkState) (numbers : List ℕ) → IsEmptyWalk found → numbers ≡ []
    → IsDistinct nat_eq numbers → IsReachedSome profile dir gives roots [] found numbers
loading_begins {profile} dir gives roots found numbers empty none once = record {
  walked = record {
    right = record {
      kept = subst AreKept (sym empty.0) (All-nil (IsPlanNode []));
      distinct = subst (λ l. IsDistinct (pointwise nat_eq) (paths_of (nodes_of l))) (sym empty.0)
          distinct_none;
      lawful = subst (λ l. AreLawful profile dir (nodes_of l)) (sym empty.0) (no_nodes _);
      own_outputs =
          subst (λ l. All (λ (n : Node). AreDistinct (output_paths_of n.drv)) (nodes_of l))
          (sym empty.0) (All-nil (λ (n : Node). AreDistinct (output_paths_of n.drv)));
      owners = subst (λ l. AreOwners (owned found.owners) (outputs_of l)) (sym empty.0)
          (owners_none (owned found.owners) (empty_get found.owners empty.2));
    };
    given = subst (λ l. All (λ (n : Node). MayBeAt dir gives n.path n.drv) (nodes_of l))
        (sym empty.0) (All-nil (λ (n : Node). MayBeAt dir gives n.path n.drv));
    reached = subst (λ l. All (IsReachedBy (MayUse dir gives) roots) (paths_of (nodes_of l)))
        (sym empty.0) (All-nil (IsReachedBy (MayUse dir gives) roots));
    marks = subst (λ l. AreMarks (marked found.marks) (paths_of (nodes_of l)) []) (sym empty.0)
        (marks_none (marked found.marks) (empty_get found.marks empty.1));
    count = no_keys found empty;
    few = no_more found empty;
  };
  in_order = λ nodes has. subst (λ l. AreLeft nodes [] [] (paths_of (nodes_of l))) (sym empty.0)
      (none_left []);
  are_numbers = subst (λ ns. AreNumbers (nodes_of found.nodes.items) ns []) (sym none) refl;
  once = once;
}

-- one more root
pub loading_more :
    {profile : Profile} (dir : List ℕ) (G H : List ℕ → Answer → Type 0) (roots done : List (List ℕ))
    (found after : WalkState) (numbers next : List ℕ) (root : List ℕ) (number : ℕ) →
    GivesSame G H →
    IsReachedSome profile dir G roots done found numbers →
    IsVisited profile dir H roots root found after number →
    next ≡ insert_key nat_eq numbers number →
    IsDistinct nat_eq next →
    IsReachedSome profile dir G roots (done ++ root ∷ []) after next
loading_more dir G H roots done found after numbers next root number same some visited inserted
    once = record {
      walked = walked_by _ G H same _ _ [] visited.walked;
      in_order = λ nodes has.
          left_append _ _
          (some.in_order nodes
          (All-left (Contains nodes) _ _
          (subst (All (Contains nodes)) visited.in_order.grown has)))
          (visited.in_order.in_order nodes has);
      are_numbers =
          subst (λ ns. AreNumbers (nodes_of after.nodes.items) ns (each_once (done ++ root ∷ [])))
          (sym inserted)
          (roots_more _ _ _ _ _
          visited.walked.right.distinct
          (subst (λ l. AreNumbers l numbers (each_once done)) (sym visited.in_order.grown)
          (numbers_grow _ _ _ _
          some.are_numbers))
          visited.is_number);
      once = once;
    }

-- after all roots
pub loading_ends : {profile : Profile} (dir : List ℕ) (gives : List ℕ → Answer → Type 0)
    (roots : List (List ℕ))
    (index : ℕ) (found : WalkState) (numbers : List ℕ) → length roots ≤ index
    → IsReachedSome profile dir gives roots (take index roots) found numbers
    → IsReachedAll profile dir gives roots found numbers
loading_ends {profile} dir gives roots index found numbers all some =
    let whole : IsReachedSome profile dir gives roots roots found numbers =
    subst (λ l. IsReachedSome profile dir gives roots l found numbers)
    (take_all index roots all) some
    in
    record {
      walked = whole.walked;
      in_order = whole.in_order;
      are_numbers = whole.are_numbers;
      once = whole.once;
    }

-- there are no more than a plan may have
few_found : {profile : Profile} (dir : List ℕ) (gives : List ℕ → Answer → Type 0)
    (roots : List (List ℕ))
    (found : WalkState) (numbers : List ℕ) → IsReachedAll profile dir gives roots found numbers
    → length (nodes_of found.nodes.items) ≤ max_nodes
few_found dir gives roots found numbers all = search (rules, length-map)

-- what was found, as contracts see a plan
abbrev pub found_graph : Profile → WalkState → List ℕ → Graph
found_graph profile found numbers = record {
  profile = profile;
  nodes = nodes_of found.nodes.items;
  roots = numbers;
}

-- what was found is the plan
pub plan_found : {profile : Profile} (dir : List ℕ) (gives : List ℕ → Answer → Type 0)
    (roots : List (List ℕ))
    (found : WalkState) (numbers : List ℕ) → IsReachedAll profile dir gives roots found numbers
    → IsPlan dir gives roots (found_graph profile found numbers)
plan_found dir gives roots found numbers all =
    let order = all.in_order (nodes_of found.nodes.items)
    (All-contains_itself _) in
    record {
      given = all.walked.given;
      in_order = order;
      reached = plan_reached _ _ order;
      whole = plan_whole _ _ all.walked.right.distinct order;
      lawful = all.walked.right.lawful;
      few = few_found _ gives _ _ _ all;
      is_roots = all.are_numbers;
    }

-- and is right without its source
pub sound_found : {profile : Profile} (dir : List ℕ) (gives : List ℕ → Answer → Type 0)
    (roots : List (List ℕ))
    (found : WalkState) (numbers : List ℕ) → IsReachedAll profile dir gives roots found numbers
    → AreKept found.nodes.items
    × IsSound (found_graph profile found numbers)
sound_found dir gives roots found numbers all = (
  all.walked.right.kept,
  record {
    dir = dir;
    lawful = all.walked.right.lawful;
    distinct = all.walked.right.distinct;
    few = few_found _ gives _ _ _ all;
    roots_within = numbers_within _ _ _
        all.are_numbers;
    roots_once = all.once;
    named = all_named _ gives _ all.walked.given;
    own_outputs = all.walked.right.own_outputs;
  },
)
