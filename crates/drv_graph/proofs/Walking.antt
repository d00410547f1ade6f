-- A walk over derivations, by what was left and what is open: how each of its steps keeps it right.
use Rattle.std.proofs.Common.{◌≡◌, ◌∙◌, ℕ, suc, List, [], ◌∷◌, ◌++◌, length, map, take, drop, sym, ap, subst, arith, Some, rules}
use Rattle.std.specs.Prelude.{⊤, All, Contains, slice_get}
use Rattle.std.proofs.lemmas.List.{length_push}
use Rattle.std.proofs.lemmas.List.Elements.{All-head, All-tail, Contains-push}
use Rattle.indexmap.specs.IndexMap.{keys}
use Rattle.nix_drv.specs.Sources.{Answer}
use Rattle.drv_graph.specs.Nodes.{Node, inputs_of, paths_of}
use Rattle.drv_graph.specs.Plans.{AreLeft, AreNumbers, IsReachedBy, MayBeAt, MayUse}
use Rattle.drv_graph.specs.Plans.AreLeft.{passed_over, left_after_inputs}
use Rattle.drv_graph.specs.PlanNodes.{nodes_of}
use Rattle.drv_graph.specs.private.Walks.{Advances, AreMarks, IsWalkSoFar, IsVisit, IsWalked, LeavesNone, Opens, marked, pending_of, visited}
use Rattle.drv_graph.specs.declared.walks.walk_state.WalkState.{WalkState}
use Rattle.drv_graph.specs.declared.walks.walk_state.Visit.{Visit}
use Rattle.drv_graph.proofs.Marks.{marks_opened, new_not_left, new_not_pending}
use Rattle.drv_graph.proofs.Numbers.{numbers_push}
use Rattle.drv_graph.proofs.PlanOrder.{left_later, reached_more}
use Rattle.nix_names.proofs.Lists.{Contains-from_get, drop_at, take_at}
use Rattle.drv_graph.specs.declared.profile.Profile.{Profile}

-- What is open of a derivation is right: it may stand at its path, and is reached.
pub record IsOpen (dir : List ℕ) (gives : List ℕ → Answer → Type 0) (roots : List (List ℕ))
    (nodes : List Node) (visit : Visit) : Type 0 where
  pub is_visit : IsVisit nodes visit
  pub stands : MayBeAt dir gives visit.path visit.drv
  pub reached : IsReachedBy (MayUse dir gives) roots visit.path

-- the path that is asked for next: by the innermost open derivation, or as the root
abbrev pub IsWanted : (root : List ℕ) → List Visit → List ℕ → Type 0
IsWanted root [] path = path ≡ root
IsWanted root (v ∷ vs) path = slice_get (inputs_of v.drv) (length v.numbers.items) ≡ Some path

-- open derivations, innermost first: each is asked for by the one that it stands above, and no two
-- have one path
abbrev pub AreOpen : (dir : List ℕ) → (gives : List ℕ → Answer → Type 0) → (roots : List (List ℕ))
    → (root : List ℕ) → List Node → List Visit → Type 0
AreOpen dir gives roots root nodes [] = ⊤
AreOpen dir gives roots root nodes (v ∷ vs) =
    IsOpen dir gives roots nodes v × (Contains (pending_of vs) v.path → ⊥) × IsWanted root vs v.path
    × AreOpen dir gives roots root nodes vs

-- what is still to be left, of open derivations innermost first and then of the root, leads from
-- some paths to others by plan order
abbrev pub Remains : (nodes : List Node) → (root : List ℕ) → (now : List (List ℕ)) → List Visit
    → (after : List (List ℕ)) → Type 0
Remains nodes root now [] after = AreLeft nodes now (root ∷ []) after
Remains nodes root now (v ∷ vs) after =
    (inputs : List (List ℕ)) × AreLeft nodes now (drop (length v.numbers.items) (inputs_of v.drv))
    inputs × (Contains inputs v.path → ⊥)
    × Remains nodes root (inputs ++ v.path ∷ []) vs after

abbrev pub visits_of : List Visit → List Node
visits_of visits = map visited visits

-- A walk from a root: what was left and what is open is right, and leads on to the end by plan
-- order.
pub record IsWalk (profile : Profile) (dir : List ℕ) (gives : List ℕ → Answer → Type 0)
    (roots : List (List ℕ))
    (root : List ℕ) (start : List Node) (found : WalkState) (visits : List Visit) : Type 0 where
  pub walked : IsWalked profile dir gives roots found (pending_of visits)
  pub pending : AreOpen dir gives roots root (nodes_of found.nodes.items) visits
  pub more : List Node
  pub grown : nodes_of found.nodes.items ≡ start ++ more
  pub order : (nodes : List Node) (after : List (List ℕ))
      → All (Contains nodes) (nodes_of found.nodes.items) → All (Contains nodes) (visits_of visits)
      → Remains nodes root (paths_of (nodes_of found.nodes.items)) visits after
      → AreLeft nodes (paths_of start) (root ∷ []) after

-- what is wanted next is to be left before the rest
remains_wanted : (nodes : List Node) (root : List ℕ) (visits : List Visit) (child : Visit)
    (now after inputs : List (List ℕ)) → IsWanted root visits child.path
    → Contains nodes (visited child) → (Contains now child.path → ⊥)
    → AreLeft nodes now (inputs_of child.drv) inputs → (Contains inputs child.path → ⊥)
    → Remains nodes root (inputs ++ child.path ∷ []) visits after
    → Remains nodes root now visits after
remains_wanted nodes root [] child now after inputs wanted has new under apart rest =
    let at_root = subst (λ r. AreLeft nodes (inputs ++ child.path ∷ []) (r ∷ []) after) (sym wanted)
    rest in
    let later = left_later _ [] at_root (Contains-push _ _) in
    subst (λ r. AreLeft nodes now (r ∷ []) after) wanted
    (left_after_inputs (visited child) now inputs [] after has new under apart later)
remains_wanted nodes root (v ∷ vs) child now after inputs wanted has new under apart
    (own, left, free, rest) =
    let parts = drop_at (inputs_of v.drv) (length v.numbers.items) _ wanted in
    let rest_of = drop (suc (length v.numbers.items)) (inputs_of v.drv) in
    let later = left_later _ _
    (subst (λ ps. AreLeft nodes (inputs ++ child.path ∷ []) ps own) parts left)
    (Contains-push _ _) in (
      own,
      subst (λ ps. AreLeft nodes now ps own) (sym parts)
          (left_after_inputs (visited child) now inputs rest_of own has new under apart later),
      free,
      rest,
    )

-- what may use a path among its inputs
pub uses_input : (dir : List ℕ) (gives : List ℕ → Answer → Type 0) (roots : List (List ℕ))
    (nodes : List Node) (v : Visit) (path : List ℕ) (n : ℕ) → IsOpen dir gives roots nodes v
    → slice_get (inputs_of v.drv) n ≡ Some path → MayUse dir gives v.path path
uses_input dir gives roots nodes v path n is wanted =
    record {
      drv = v.drv;
      stands = is.stands;
      is_input = Contains-from_get _ n _ wanted;
    }

-- what is wanted is reached
pub wanted_reached : (dir : List ℕ) (gives : List ℕ → Answer → Type 0) (roots : List (List ℕ))
    (root : List ℕ) (nodes : List Node) (visits : List Visit) (path : List ℕ) → Contains roots root
    → AreOpen dir gives roots root nodes visits → IsWanted root visits path
    → IsReachedBy (MayUse dir gives) roots path
wanted_reached dir gives roots root nodes [] path has_root are wanted = search rules
wanted_reached dir gives roots root nodes (v ∷ vs) path has_root are wanted =
    search (rules, reached_more, uses_input)

-- what was left stays right where nothing is left
found_same : {profile : Profile} (dir : List ℕ) (found after : WalkState) → LeavesNone found after
    → IsWalkSoFar profile dir found → IsWalkSoFar profile dir after
found_same dir found after none right = search rules

-- what is wanted is opened
pub walk_opens :
    {profile : Profile} (dir : List ℕ) (gives : List ℕ → Answer → Type 0) (roots : List (List ℕ))
    (root : List ℕ)
    (start : List Node) (found after : WalkState) (visits : List Visit) (path : List ℕ)
    (child : Visit) →
    Contains roots root →
    IsWalk profile dir gives roots root start found visits →
    IsWanted root visits path →
    LeavesNone found after →
    Opens dir gives found.marks after.marks path child →
    IsWalk profile dir gives roots root start after (child ∷ visits)
walk_opens dir gives roots root start found after visits path child has_root walk wanted none
    opens =
    let left = paths_of (nodes_of found.nodes.items) in
    let nodes_same : nodes_of after.nodes.items ≡ nodes_of found.nodes.items =
    ap (λ l. nodes_of l.items) none.nodes in
    let own : child.path ≡ path = opens.is_path in
    let wanted_child : IsWanted root visits child.path =
    subst (IsWanted root visits) (sym own) wanted in
    let reached : IsReachedBy (MayUse dir gives) roots child.path =
    wanted_reached _ gives _ _ _ _ _ has_root
    walk.pending wanted_child in
    let new_left : Contains left child.path → ⊥ =
    subst (λ p. Contains left p → ⊥) (sym own)
    (new_not_left (marked found.marks) _ _ _ walk.walked.marks
    opens.is_new) in
    let apart : Contains (pending_of visits) child.path
    → ⊥ = subst (λ p. Contains (pending_of visits) p → ⊥) (sym own)
    (new_not_pending (marked found.marks) _ _ _ walk.walked.marks
    opens.is_new) in
    let stands : MayBeAt dir gives child.path child.drv =
    subst (λ p. MayBeAt dir gives p child.drv) (sym own) opens.stands in
    let marks : AreMarks (marked after.marks) left (child.path ∷ pending_of visits) =
    subst (λ p. AreMarks (marked after.marks) left (p ∷ pending_of visits)) (sym own)
    (marks_opened (marked found.marks) (marked after.marks) _ _ _
    walk.walked.marks opens.is_new opens.marks) in
    let is_open : IsOpen dir gives roots (nodes_of found.nodes.items) child =
    record {
      is_visit = begun (nodes_of found.nodes.items) child opens.inputs opens.none;
      stands = stands;
      reached = reached;
    } in
    record {
      walked = record {
        right = found_same _ _ _ none walk.walked.right;
        given = subst (All (λ (n : Node). MayBeAt dir gives n.path n.drv)) (sym nodes_same)
            walk.walked.given;
        reached = subst (λ ns. All (IsReachedBy (MayUse dir gives) roots) (paths_of ns))
            (sym nodes_same) walk.walked.reached;
        marks = subst (λ ns. AreMarks (marked after.marks) (paths_of ns)
            (child.path ∷ pending_of visits)) (sym nodes_same) marks;
        count = omega (arith, opens.count, walk.walked.count, ap (λ l. length l.items) none.nodes);
        few = omega (arith, opens.count, opens.room);
      };
      pending = subst (λ ns. AreOpen dir gives roots root ns (child ∷ visits)) (sym nodes_same)
          (is_open, apart, wanted_child, walk.pending);
      more = walk.more;
      grown = nodes_same ∙ walk.grown;
      order = λ nodes last has open_has rest.
          walk.order nodes last (subst (All (Contains nodes)) nodes_same has)
          (All-tail (Contains nodes) _ _ open_has)
          (goes_on nodes last
          (All-head (Contains nodes) _ _ open_has)
          (subst (λ ns. Remains nodes root (paths_of ns) (child ∷ visits) last) nodes_same rest)
          new_left wanted_child);
    }
  where
    begun : (ns : List Node) (v : Visit) → v.inputs.items ≡ inputs_of v.drv → v.numbers.items ≡ []
        → IsVisit ns v
    begun ns v inputs none_yet = search rules

    goes_on : (nodes : List Node) (last : List (List ℕ)) → Contains nodes (visited child)
        → Remains nodes root (paths_of (nodes_of found.nodes.items)) (child ∷ visits) last
        → (Contains (paths_of (nodes_of found.nodes.items)) child.path → ⊥)
        → IsWanted root visits child.path → Remains nodes root
        (paths_of (nodes_of found.nodes.items)) visits last
    goes_on nodes last has (inputs, left, free, rest) new wanted_child =
        search (rules, remains_wanted)

-- the innermost open derivation gets the number of its next input
pub walk_advances :
    {profile : Profile} (dir : List ℕ) (gives : List ℕ → Answer → Type 0) (roots : List (List ℕ))
    (root : List ℕ)
    (start : List Node) (found after : WalkState) (visit next : Visit) (visits : List Visit) →
    IsWalk profile dir gives roots root start found (visit ∷ visits) →
    LeavesNone found after →
    Advances found.marks after.marks visit next →
    IsWalk profile dir gives roots root start after (next ∷ visits)
walk_advances dir gives roots root start found after visit next visits walk none step =
    let ns = nodes_of found.nodes.items in
    let nodes_same : nodes_of after.nodes.items ≡ nodes_of found.nodes.items =
    ap (λ l. nodes_of l.items) none.nodes in
    let is = walk.pending.0 in
    let at : slice_get (paths_of (nodes_of found.nodes.items)) step.number
    ≡ Some step.input = (walk.walked.marks.numbered step.input step.number).0 step.is_number in
    let wanted : slice_get (inputs_of visit.drv) (length visit.numbers.items)
    ≡ Some step.input = subst (λ l. slice_get l (length visit.numbers.items) ≡ Some step.input)
    is.is_visit.inputs step.is_input in
    let long : length next.numbers.items ≡ suc (length visit.numbers.items) = ap length step.numbers
    ∙ length_push _ _ ∙ omega arith in
    let numbers : AreNumbers (nodes_of found.nodes.items) next.numbers.items
    (take (length next.numbers.items) (inputs_of next.drv)) =
    subst (λ d. AreNumbers (nodes_of found.nodes.items) next.numbers.items
    (take (length next.numbers.items) (inputs_of d))) (sym step.drv)
    (subst (λ n. AreNumbers (nodes_of found.nodes.items) next.numbers.items
    (take n (inputs_of visit.drv))) (sym long)
    (subst (λ l. AreNumbers (nodes_of found.nodes.items) l
    (take (suc (length visit.numbers.items)) (inputs_of visit.drv))) (sym step.numbers)
    (subst (AreNumbers (nodes_of found.nodes.items) (visit.numbers.items ++ step.number ∷ []))
    (sym (take_at _ _ _ wanted))
    (numbers_push _ _
    _ _ step.input
    is.is_visit.numbers at)))) in
    let same : visited next ≡ visited visit = cc (step.path, step.drv) in
    let pending_same : pending_of (next ∷ visits) ≡ pending_of (visit ∷ visits) =
    ap (λ p. p ∷ pending_of visits) step.path in
    let is_open : IsOpen dir gives roots (nodes_of found.nodes.items) next = record {
      is_visit = record {
        inputs = ap (λ v. v.items) step.inputs ∙ is.is_visit.inputs
            ∙ ap (λ d. inputs_of d) (sym step.drv);
        numbers = numbers;
      };
      stands = subst (λ p. MayBeAt dir gives p next.drv) (sym step.path)
          (subst (MayBeAt dir gives visit.path) (sym step.drv) is.stands);
      reached = subst (IsReachedBy (MayUse dir gives) roots) (sym step.path) is.reached;
    } in
    record {
      walked = record {
        right = found_same dir found after none walk.walked.right;
        given = subst (All (λ (n : Node). MayBeAt dir gives n.path n.drv)) (sym nodes_same)
            walk.walked.given;
        reached = subst (λ l. All (IsReachedBy (MayUse dir gives) roots) (paths_of l))
            (sym nodes_same) walk.walked.reached;
        marks = subst (λ m. AreMarks (marked m) (paths_of (nodes_of after.nodes.items))
            (pending_of (next ∷ visits))) (sym step.marks)
            (subst (λ l. AreMarks (marked found.marks) (paths_of l) (pending_of (next ∷ visits)))
            (sym nodes_same)
            (subst (AreMarks (marked found.marks) (paths_of (nodes_of found.nodes.items)))
            (sym pending_same) walk.walked.marks));
        count = omega (
          arith,
          ap (λ m. length (keys m)) step.marks,
          walk.walked.count,
          ap (λ l. length l.items) none.nodes,
        );
        few = omega (arith, ap (λ m. length (keys m)) step.marks, walk.walked.few);
      };
      pending = subst (λ l. AreOpen dir gives roots root l (next ∷ visits)) (sym nodes_same) (
        is_open,
        subst (λ p. Contains (pending_of visits) p → ⊥) (sym step.path) walk.pending.1,
        subst (IsWanted root visits) (sym step.path) walk.pending.2,
        walk.pending.3,
      );
      more = walk.more;
      grown = nodes_same ∙ walk.grown;
      order = λ nodes last has open_has rest.
          walk.order nodes last (subst (All (Contains nodes)) nodes_same has)
          (subst (λ v. All (Contains nodes) (v ∷ visits_of visits)) same open_has)
          (goes_on nodes last wanted long
          (Contains-from_get (paths_of (nodes_of found.nodes.items)) step.number step.input at)
          (subst (λ l. Remains nodes root (paths_of l) (next ∷ visits) last) nodes_same rest));
    }
  where
    goes_on : (nodes : List Node) (last : List (List ℕ))
        → slice_get (inputs_of visit.drv) (length visit.numbers.items) ≡ Some step.input
        → length next.numbers.items ≡ suc (length visit.numbers.items)
        → Contains (paths_of (nodes_of found.nodes.items)) step.input
        → Remains nodes root (paths_of (nodes_of found.nodes.items)) (next ∷ visits) last
        → Remains nodes root (paths_of (nodes_of found.nodes.items)) (visit ∷ visits) last
    goes_on nodes last wanted long there (inputs, left, free, rest) =
        let now = paths_of (nodes_of found.nodes.items) in
        let rest_of = drop (suc (length visit.numbers.items)) (inputs_of visit.drv) in
        let left_rest : AreLeft nodes (paths_of (nodes_of found.nodes.items))
        (drop (suc (length visit.numbers.items)) (inputs_of visit.drv)) inputs =
        subst (λ d. AreLeft nodes (paths_of (nodes_of found.nodes.items))
        (drop (suc (length visit.numbers.items)) (inputs_of d)) inputs) step.drv
        (subst (λ n. AreLeft nodes (paths_of (nodes_of found.nodes.items))
        (drop n (inputs_of next.drv)) inputs) long left) in (
          inputs,
          subst (λ ps. AreLeft nodes (paths_of (nodes_of found.nodes.items)) ps inputs)
              (sym (drop_at (inputs_of visit.drv) (length visit.numbers.items) step.input wanted))
              (passed_over step.input (paths_of (nodes_of found.nodes.items))
              (drop (suc (length visit.numbers.items)) (inputs_of visit.drv)) inputs there
              left_rest),
          subst (λ p. Contains inputs p → ⊥) step.path free,
          subst (λ p. Remains nodes root (inputs ++ p ∷ []) visits last) step.path rest,
        )
