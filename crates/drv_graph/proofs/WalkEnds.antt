-- A walk over derivations: how one is left, and why its faults are true.
use Rattle.std.proofs.Common.{◌≡◌, ◌∙◌, ℕ, ◌+◌, ◌≤◌, List, [], ◌∷◌, ◌++◌, length, drop, refl, sym, ap, subst, inl, inr, ⊎_elim, arith, Option, Some, None, Err, Result, is_some, rules}
use Rattle.std.specs.Prelude.{All, Contains}
use Rattle.std.specs.Cmp.Lexicographic.{nat_list_eq_equiv}
use Rattle.std.proofs.lemmas.Bool.{false≢true}
use Rattle.std.proofs.lemmas.List.{append_assoc, drop_all, length_push, length-map, map_push}
use Rattle.std.proofs.lemmas.List.Elements.{All-cons, All-contains, All-push, Contains-push}
use Rattle.std.proofs.lemmas.Map.Views.{hash_map_contains_key_iff}
use Rattle.indexmap.specs.IndexMap.{keys}
use Rattle.nix_names.proofs.RisingLists.{equal_from_eq}
use Rattle.nix_drv.specs.Sources.{Answer}
use Rattle.drv_graph.specs.Loading.{AreDistinct, IsLoading, IsOnCycle, MayCheck, ReachTooMany, max_nodes}
use Rattle.drv_graph.specs.Nodes.{Node, inputs_of, paths_of}
use Rattle.drv_graph.specs.Plans.{AreLeft, IsReachedBy, LeadsBy, MayAnswer, MayBeAt, MayUse}
use Rattle.drv_graph.specs.Plans.AreLeft.{none_left}
use Rattle.drv_graph.specs.PlanNodes.{nodes_of}
use Rattle.drv_graph.specs.private.Walks.{AreMarks, HasAllNumbers, IsFaultAt, IsLeavingFault, IsMeetingFault, IsReadingFault, LeavesVisit, SetsEntry, marked, pending_of, visited}
use Rattle.drv_graph.specs.declared.fault.GraphFault.{GraphFault}
use Rattle.drv_graph.specs.declared.fault.GraphFault.TheVariants.{NoMemory, At, Draft, Name}
use Rattle.drv_graph.specs.declared.fault.NodeFault.TheVariants.{Unreadable, TooMany, Text, Cycle, Outputs, OutputClash}
use Rattle.drv_graph.specs.declared.fault.OutputFault.{OutputFault}
use Rattle.drv_graph.specs.declared.kinds.Kind.{Kind}
use Rattle.drv_graph.specs.declared.walks.walk_state.WalkState.{WalkState}
use Rattle.drv_graph.specs.declared.walks.walk_state.Visit.{Visit}
use Rattle.drv_graph.proofs.Marks.{marks_left, pending_not_left}
use Rattle.drv_graph.proofs.Numbers.{numbers_grow}
use Rattle.drv_graph.proofs.PathLists.{distinct_push}
use Rattle.drv_graph.proofs.PlanOrder.{leads_more}
use Rattle.drv_graph.proofs.Walking.{AreOpen, IsOpen, IsWalk, IsWanted, Remains, uses_input, wanted_reached}
use Rattle.nix_names.proofs.Lists.{All-from_contains, All-left, Contains-cons_cases, Contains-first, Contains-from_get, Contains-map, Contains-nothing}
use Rattle.drv_graph.specs.declared.profile.Profile.{Profile}

-- what is open stays right as nodes are added
open_grows : (dir : List ℕ) (gives : List ℕ → Answer → Type 0) (roots : List (List ℕ))
    (root : List ℕ) (nodes more : List Node) (visits : List Visit)
    → AreOpen dir gives roots root nodes visits
    → AreOpen dir gives roots root (nodes ++ more) visits
open_grows dir gives roots root nodes more [] are = tt
open_grows dir gives roots root nodes more (v ∷ vs) are = (
  record {
    is_visit = record {
      inputs = are.0.is_visit.inputs;
      numbers = numbers_grow _ _ _
          _ are.0.is_visit.numbers;
    };
    stands = are.0.stands;
    reached = are.0.reached;
  },
  are.1,
  are.2,
  open_grows dir gives roots root nodes more vs are.3,
)

-- the innermost open derivation is left
pub walk_leaves :
    {profile : Profile} (dir : List ℕ) (gives : List ℕ → Answer → Type 0) (roots : List (List ℕ))
    (root : List ℕ)
    (start : List Node) (found after : WalkState) (visit : Visit) (visits : List Visit) →
    IsWalk profile dir gives roots root start found (visit ∷ visits) →
    HasAllNumbers visit →
    LeavesVisit profile dir found after visit →
    IsWalk profile dir gives roots root start after visits
walk_leaves dir gives roots root start found after visit visits walk all leaves = record {
  walked = record {
    right = leaves.found;
    given = subst (All (λ (n : Node). MayBeAt dir gives n.path n.drv)) (sym leaves.nodes)
        (All-push (λ (n : Node). MayBeAt dir gives n.path n.drv) _
        _ walk.walked.given is.stands);
    reached = subst (All (IsReachedBy (MayUse dir gives) roots)) (sym paths_grown)
        (All-push (IsReachedBy (MayUse dir gives) roots) _
        _ walk.walked.reached is.reached);
    marks = subst (λ l. AreMarks (marked after.marks) l (pending_of visits)) (sym paths_grown)
        (marks_left (marked found.marks) (marked after.marks)
        _ _ _ walk.walked.marks
        walk.pending.1
        (subst (λ n. SetsEntry (marked found.marks) (marked after.marks) visit.path (Some n))
        (sym long) leaves.marks));
    count = omega (arith, leaves.count, walk.walked.count, left_grown);
    few = omega (arith, leaves.count, walk.walked.few);
  };
  pending = subst (λ ns. AreOpen dir gives roots root ns visits) (sym leaves.nodes)
      (open_grows _ gives _ _ _ _ _
      walk.pending.3);
  more = walk.more ++ visited visit ∷ [];
  grown = leaves.nodes ∙ ap (λ l. l ++ visited visit ∷ []) walk.grown
      ∙ append_assoc start walk.more (visited visit ∷ []);
  order = λ nodes last has open_has rest.
      let has_all : All (Contains nodes) (nodes_of found.nodes.items ++ visited visit ∷ []) =
      subst (All (Contains nodes)) leaves.nodes has in
      let has_visit : Contains nodes (visited visit) =
      All-contains (Contains nodes) _
      _ has_all (Contains-push _ _) in
      walk.order nodes last
      (All-left (Contains nodes) _ _ has_all)
      (All-cons (Contains nodes) _ _ has_visit open_has) (
        paths_of (nodes_of found.nodes.items),
        ended nodes,
        not_left,
        subst (λ l. Remains nodes root l visits last) paths_grown rest,
      );
}
  where
    is : IsOpen dir gives roots (nodes_of found.nodes.items) visit
    is = walk.pending.0

    paths_grown : paths_of (nodes_of after.nodes.items) ≡ paths_of (nodes_of found.nodes.items)
        ++ visit.path ∷ []
    paths_grown = search (rules, map_push)

    long : length (paths_of (nodes_of found.nodes.items)) ≡ length found.nodes.items
    long = search (rules, length-map)

    left_grown : length after.nodes.items ≡ length found.nodes.items + 1
    left_grown = search (rules, length_push, length-map)

    not_left : Contains (paths_of (nodes_of found.nodes.items)) visit.path → ⊥
    not_left = search (rules, pending_not_left, Contains-first)

    ended : (nodes : List Node) → AreLeft nodes (paths_of (nodes_of found.nodes.items))
        (drop (length visit.numbers.items) (inputs_of visit.drv))
        (paths_of (nodes_of found.nodes.items))
    ended nodes =
        let short : length (inputs_of visit.drv) ≤ length visit.numbers.items =
        omega (arith, all, ap length is.is_visit.inputs) in
        subst (λ ps. AreLeft nodes (paths_of (nodes_of found.nodes.items)) ps
        (paths_of (nodes_of found.nodes.items)))
        (sym (drop_all _ _ short))
        (none_left (paths_of (nodes_of found.nodes.items)))

-- an open path leads to the innermost one
leads_up : (dir : List ℕ) (gives : List ℕ → Answer → Type 0) (roots : List (List ℕ)) (root : List ℕ)
    (nodes : List Node) (v : Visit) (vs : List Visit) (path : List ℕ)
    → AreOpen dir gives roots root nodes (v ∷ vs) → Contains (pending_of (v ∷ vs)) path
    → (steps : List (List ℕ)) × LeadsBy (MayUse dir gives) path v.path steps
leads_up dir gives roots root nodes v [] path are has =
    ⊎_elim (λ same. ([], sym same)) (λ none. absurd (Contains-nothing _ none))
    (Contains-cons_cases _ [] path has)
leads_up dir gives roots root nodes v (w ∷ ws) path are has =
    ⊎_elim (λ same. ([], sym same))
    (λ below.
    let lower = leads_up dir gives roots root nodes w ws path are.3 below in (
      lower.0 ++ v.path ∷ [],
      leads_more (MayUse dir gives) _ _ _ _ lower.1
          (uses_input _ gives _ _ w _ _ are.3.0 are.2),
    ))
    (Contains-cons_cases _ (pending_of (w ∷ ws)) _ has)

-- an open path is reached
pending_reached : (dir : List ℕ) (gives : List ℕ → Answer → Type 0) (roots : List (List ℕ))
    (root : List ℕ) (nodes : List Node) (visits : List Visit) (path : List ℕ)
    → AreOpen dir gives roots root nodes visits → Contains (pending_of visits) path
    → IsReachedBy (MayUse dir gives) roots path
pending_reached dir gives roots root nodes [] path are has = absurd (Contains-nothing _ has)
pending_reached dir gives roots root nodes (v ∷ vs) path are has =
    ⊎_elim (λ same. subst (IsReachedBy (MayUse dir gives) roots) same are.0.reached)
    (λ below. pending_reached dir gives roots root nodes vs path are.3 below)
    (Contains-cons_cases _ _ _ has)

-- what is open and wanted again is on a cycle
on_cycle : (dir : List ℕ) (gives : List ℕ → Answer → Type 0) (roots : List (List ℕ)) (root : List ℕ)
    (nodes : List Node) (visits : List Visit) (path : List ℕ)
    → AreOpen dir gives roots root nodes visits → IsWanted root visits path
    → Contains (pending_of visits) path → IsOnCycle (MayUse dir gives) path
on_cycle dir gives roots root nodes [] path are wanted has = absurd (Contains-nothing _ has)
on_cycle dir gives roots root nodes (v ∷ vs) path are wanted has =
    let up = leads_up _ gives _ _ _ v _ _ are has in
    record {
      user = v.path;
      steps = up.0;
      leads = up.1;
      closes = uses_input _ gives _ _ v _ _ are.0 wanted;
    }

-- each path that was met is reached
met_reached : {profile : Profile} (dir : List ℕ) (gives : List ℕ → Answer → Type 0)
    (roots : List (List ℕ))
    (root : List ℕ) (start : List Node) (found : WalkState) (visits : List Visit)
    → IsWalk profile dir gives roots root start found visits → (path : List ℕ)
    → Contains (keys found.marks) path → IsReachedBy (MayUse dir gives) roots path
met_reached dir gives roots root start found visits walk path has =
    by (marked found.marks path) refl
  where
    by : (mark : Option (Option ℕ)) → marked found.marks path ≡ mark
        → IsReachedBy (MayUse dir gives) roots path
    by None is = absurd
        (false≢true
        (sym (ap is_some is)
        ∙ (hash_map_contains_key_iff nat_list_eq_equiv equal_from_eq found.marks path).1 has))
    by (Some None) is = search (rules, pending_reached, is)
    by (Some (Some n)) is =
        All-contains (IsReachedBy (MayUse dir gives) roots) (paths_of (nodes_of found.nodes.items))
        path walk.walked.reached
        (Contains-from_get (paths_of (nodes_of found.nodes.items)) n path
        ((walk.walked.marks.numbered path n).0 is))

too_many : {profile : Profile} (dir : List ℕ) (gives : List ℕ → Answer → Type 0)
    (roots : List (List ℕ)) (root : List ℕ)
    (start : List Node) (found : WalkState) (visits : List Visit) (path : List ℕ)
    → IsWalk profile dir gives roots root start found visits → IsReachedBy
    (MayUse dir gives) roots path
    → marked found.marks path ≡ None → AreDistinct (keys found.marks) → max_nodes
    ≤ length (keys found.marks) → ReachTooMany (MayUse dir gives) roots
too_many dir gives roots root start found visits path walk reached none distinct many =
    let ks = keys found.marks in
    record {
      paths = keys found.marks ++ path ∷ [];
      distinct = distinct_push (keys found.marks) path distinct
          (λ has. false≢true (sym (ap is_some none)
          ∙ (hash_map_contains_key_iff nat_list_eq_equiv equal_from_eq found.marks path).1 has));
      many = omega (arith, many, length_push (keys found.marks) path);
      reached = All-push (IsReachedBy (MayUse dir gives) roots) (keys found.marks) path
          (All-from_contains (IsReachedBy (MayUse dir gives) roots) (keys found.marks)
          (met_reached dir gives roots root start found visits walk)) reached;
    }

-- a fault of what is wanted next is true
pub meeting_fault :
    {profile : Profile} (dir : List ℕ) (gives : List ℕ → Answer → Type 0) (roots : List (List ℕ))
    (root : List ℕ)
    (start : List Node) (found : WalkState) (visits : List Visit) (path : List ℕ)
    (fault : GraphFault) →
    Contains roots root →
    IsWalk profile dir gives roots root start found visits →
    IsWanted root visits path →
    IsMeetingFault dir gives found.marks path fault →
    IsLoading profile dir gives roots (Err fault)
meeting_fault {profile} dir gives roots root start found visits path fault has_root walk wanted
    (inl cycle) =
    by fault cycle.0
  where
    reached : IsReachedBy (MayUse dir gives) roots path
    reached = search (rules, wanted_reached)

    by : (f : GraphFault) → IsFaultAt path Cycle f → IsLoading profile dir gives roots (Err f)
    by NoMemory at = tt
    by (At p found_fault) at = search (rules, reached, on_cycle)
    by (Draft found_fault) at = absurd at
    by Name at = absurd at
meeting_fault {profile} dir gives roots root start found visits path fault has_root walk wanted
    (inr reading) = by fault reading.0
  where
    reached : IsReachedBy (MayUse dir gives) roots path
    reached = search (rules, wanted_reached)

    by : (f : GraphFault) → IsReadingFault dir gives path (length (keys found.marks)) f
        → IsLoading profile dir gives roots (Err f)
    by NoMemory at = tt
    by (At p Unreadable) at = search (rules, reached)
    by (At p TooMany) at = subst (λ q. IsLoading profile dir gives roots (Err (At q TooMany)))
        (sym at.0) (
          reached,
          (
            at.1,
            too_many _ gives _ _ _ _ _ _ walk reached reading.1
                reading.2 at.2,
          ),
        )
    by (At p (Text text)) at = subst
        (λ q. IsLoading profile dir gives roots (Err (At q (Text text))))
        (sym at.0) (reached, (at.1, at.3))
    by (At p Cycle) at = absurd at
    by (At p (Outputs outputs)) at = absurd at
    by (At p OutputClash) at = absurd at
    by (Draft found_fault) at = absurd at
    by Name at = absurd at

-- what the check of the innermost open derivation may answer after what was left
checked_after :
    {profile : Profile} (dir : List ℕ) (gives : List ℕ → Answer → Type 0) (roots : List (List ℕ))
    (root : List ℕ)
    (start : List Node) (found : WalkState) (visit : Visit) (visits : List Visit)
    (answer : Result Kind OutputFault) →
    IsWalk profile dir gives roots root start found (visit ∷ visits) →
    MayAnswer profile dir (nodes_of found.nodes.items) (visited visit) answer →
    MayCheck profile dir gives visit.path answer
checked_after dir gives roots root start found visit visits answer walk check =
    search (rules, length-map)

-- a fault of the innermost open derivation is true
pub leaving_fault :
    {profile : Profile} (dir : List ℕ) (gives : List ℕ → Answer → Type 0) (roots : List (List ℕ))
    (root : List ℕ)
    (start : List Node) (found : WalkState) (visit : Visit) (visits : List Visit)
    (fault : GraphFault) →
    IsWalk profile dir gives roots root start found (visit ∷ visits) →
    IsLeavingFault profile dir found.nodes.items visit fault →
    IsLoading profile dir gives roots (Err fault)
unfolding checked_after
leaving_fault dir gives roots root start found visit visits NoMemory walk at = tt
leaving_fault {profile} dir gives roots root start found visit visits
    (At p (Outputs outputs)) walk at =
    subst (λ q. IsLoading profile dir gives roots (Err (At q (Outputs outputs)))) (sym at.0) (
      walk.pending.0.reached,
      (
        at.1,
        checked_after _ gives _ _ _ _ _ _ _ walk at.2,
      ),
    )
leaving_fault {profile} dir gives roots root start found visit visits (At p OutputClash) walk at =
    let other = at.2.0 in
    let left = paths_of (nodes_of found.nodes.items) in
    let there : Contains left other.path = Contains-map (λ (n : Node). n.path)
    _ _ at.2.1 in
    let differs : other.path ≡ visit.path → ⊥ =
    λ same. pending_not_left (marked found.marks) _ _ _
    walk.walked.marks (Contains-first _ _)
    (subst (Contains left) same there) in
    subst (λ q. IsLoading profile dir gives roots (Err (At q OutputClash))) (sym at.0) (
      walk.pending.0.reached,
      record {
        kind = at.1.0;
        checked = checked_after _ gives _ _ _ _ _ _ _ walk
            at.1.1;
        earlier = other;
        is_earlier = at.2.1;
        reached = All-contains (IsReachedBy (MayUse dir gives) roots) _ _
            walk.walked.reached there;
        differs = differs;
        shares = at.2.2;
        no_twin = at.2.3;
      },
    )
leaving_fault dir gives roots root start found visit visits (At p Unreadable) walk at = absurd at
leaving_fault dir gives roots root start found visit visits (At p TooMany) walk at = absurd at
leaving_fault dir gives roots root start found visit visits (At p (Text text)) walk at = absurd at
leaving_fault dir gives roots root start found visit visits (At p Cycle) walk at = absurd at
leaving_fault dir gives roots root start found visit visits (Draft found_fault) walk at = absurd at
leaving_fault dir gives roots root start found visit visits Name walk at = absurd at
