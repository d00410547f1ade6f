-- How an open derivation whose inputs were all left is left itself.
use Rattle.std.proofs.Common.{◌≡◌, ◌∙◌, ℕ, Bool, List, [], ◌∷◌, ◌++◌, length, map, refl, sym, ap, subst, inl, inr, ⊎_elim, Option, Some, Ok, Err, rules}
use Rattle.std.specs.Prelude.{◌⊎◌, All, Contains, slice_get}
use Rattle.std.specs.Global.{Vec}
use Rattle.std.specs.List.{position_or_len}
use Rattle.std.proofs.lemmas.List.{append_assoc, map_push, same_from_push, take_all}
use Rattle.std.proofs.lemmas.List.Elements.{All-contains, All-push}
use Rattle.std.proofs.lemmas.Simd.{map-map}
use Rattle.nix_drv.specs.Derivation.{Drv, Output}
use Rattle.nix_drv.specs.Parts.{bytes_of, drv_of, input_of, output_of, path_of}
use Rattle.nix_drv.specs.Indices.{output_names}
use Rattle.nix_drv.specs.declared.derivation.Input.{Input as InputStruct}
use Rattle.nix_drv.specs.declared.derivation.Output.{Output as OutputStruct}
use Rattle.nix_drv.specs.declared.derivation.Parts.{Parts}
use Rattle.nix_names.specs.Rising.{IsRising}
use Rattle.drv_graph.specs.Loading.{AreDistinct}
use Rattle.drv_graph.specs.Nodes.{Node, inputs_of, output_paths_of, paths_of}
use Rattle.drv_graph.specs.private.Owners.{AreOwnedBy, AreOwners, IsClash, IsOwning, outputs_of, owned}
use Rattle.drv_graph.specs.Plans.{AreLawful, AreNumbers, AreTwins, IsLawful, MayAnswer, ShareOutput}
use Rattle.drv_graph.specs.PlanNodes.{AreKept, HasHash, IsPlanNode, node_of, nodes_of, text_path_of}
use Rattle.drv_graph.specs.private.Walks.{HasAllNumbers, IsWalkSoFar, IsLeavingFault, IsVisit, LeavesVisit, SetsEntry, kept_visit, marked, visited}
use Rattle.indexmap.specs.IndexMap.{keys}
use Rattle.drv_graph.specs.declared.fault.GraphFault.{GraphFault}
use Rattle.drv_graph.specs.declared.walks.walk_state.WalkState.{WalkState}
use Rattle.drv_graph.specs.declared.walks.walk_state.Visit.{Visit}
use Rattle.drv_graph.specs.declared.kinds.Kind.{Kind}
use Rattle.drv_graph.specs.declared.plans.node.PlanNode.{PlanNode}
use Rattle.drv_graph.specs.Twins.{are_twins}
use Rattle.drv_graph.proofs.FirstTwins.{owner_first, position_grows, position_push, twins_alone}
use Rattle.drv_graph.proofs.Numbers.{hashes_grow, numbers_grow}
use Rattle.drv_graph.proofs.Owners.{apart_or_same}
use Rattle.drv_graph.proofs.OwnOutputs.{own_outputs}
use Rattle.drv_graph.proofs.PathLists.{distinct_push}
use Rattle.drv_graph.proofs.Twins.{some_output}
use Rattle.nix_names.proofs.Lists.{All-from_contains, Contains-from_map, Contains-map, get_from_contains, get_grows, get_mapped, get_pushed}
use Rattle.drv_graph.specs.declared.profile.Profile.{Profile}

-- the parts that are lent are those of the derivation
pub parts_outputs : (parts : Parts) (drv : Drv) (lent : List OutputStruct) → drv_of parts ≡ drv
    → lent ≡ parts.outputs.items → map output_of lent ≡ drv.outputs
parts_outputs parts drv lent same is = search rules

pub parts_sources : (parts : Parts) (drv : Drv) (lent : List (Vec ℕ)) → drv_of parts ≡ drv
    → lent ≡ parts.sources.items → map bytes_of lent ≡ drv.sources
parts_sources parts drv lent same is = search rules

-- the paths of inputs and outputs, from what lends them
pub inputs_are : (lent : List InputStruct) (drv : Drv) (paths : List (List ℕ)) → map input_of lent
    ≡ drv.inputs → paths ≡ map path_of lent → paths ≡ inputs_of drv
inputs_are lent drv paths same is = search (rules, map-map)

pub outputs_are : (lent : List OutputStruct) (drv : Drv) (paths : List (List ℕ))
    → map output_of lent ≡ drv.outputs → paths ≡ map text_path_of lent → paths ≡ output_paths_of drv
outputs_are lent drv paths same is = search (rules, map-map)

-- an open derivation with all its numbers has those of all its inputs
pub all_numbers : (nodes : List Node) (visit : Visit) → IsVisit nodes visit → HasAllNumbers visit
    → AreNumbers nodes visit.numbers.items (inputs_of visit.drv)
all_numbers nodes visit is all = search (rules, take_all)

-- the fault of outputs that clash is true
pub leaving_clash : {profile : Profile} (dir : List ℕ) (kept given : List PlanNode) (visit : Visit)
    (outputs : List (List ℕ)) (owners : List ℕ → Option ℕ) (fault : GraphFault) (kind : Kind)
    → MayAnswer profile dir (nodes_of kept) (visited visit) (Ok kind) → given ≡ kept
    → outputs ≡ output_paths_of visit.drv → IsOwning given visit.path outputs owners (Err fault)
    → IsLeavingFault profile dir kept visit fault
leaving_clash dir kept given visit outputs owners fault kind right same are (inl memory) =
    search rules
leaving_clash {profile} dir kept given visit outputs owners fault kind right same are
    (inr (is, found)) =
    let clash : IsClash kept (output_paths_of visit.drv) = subst (IsClash kept) are
    (subst (λ k. IsClash k outputs) same found) in
    let mine = Contains-from_map (λ (o : Output). o.path) _ _
    clash.is_own in
    let other = Contains-from_map (λ (o : Output). o.path) clash.node.drv.outputs _
    clash.is_output in
    subst (IsLeavingFault profile dir kept visit) (sym is) (
      refl,
      (kind, right),
      (
        node_of clash.node,
        Contains-map node_of _ _ clash.is_node,
        (other.0, mine.0, other.1, mine.1, other.2 ∙ sym mine.2),
        clash.no_twin,
      ),
    )

last_cases : {A : Type 0} (x : A) (xs : List A) → (ys : List A) × (y : A) × (x ∷ xs ≡ ys ++ y ∷ [])
last_cases x [] = ([], x, refl)
last_cases x (z ∷ zs) = let rest = last_cases z _ in (x ∷ rest.0, rest.1, ap (λ l. x ∷ l) rest.2)

-- one more lawful node
pub lawful_push : {profile : Profile} (dir : List ℕ) (nodes : List Node) (node : Node)
    → AreLawful profile dir nodes
    → IsLawful profile dir nodes node → AreLawful profile dir (nodes ++ node ∷ [])
lawful_push dir nodes node all one before [] other parts = search (rules, same_from_push)
lawful_push dir nodes node all one before (x ∷ xs) other parts =
    let rest = last_cases x _ in
    let whole : nodes ++ node ∷ [] ≡ (before ++ other ∷ rest.0) ++ rest.1 ∷ [] =
    parts ∙ ap (λ l. before ++ other ∷ l) rest.2
    ∙ sym (append_assoc before (other ∷ rest.0) (rest.1 ∷ [])) in
    all before rest.0 other (same_from_push _ _ _ _ whole).0

-- what is kept stays right as nodes are added after its first twin
kept_grows : (nodes more : List Node) (kept : PlanNode) → IsPlanNode nodes kept
    → position_or_len (λ (n : Node). are_twins n.drv kept.drv) (nodes ++ more)
    ≡ position_or_len (λ (n : Node). are_twins n.drv kept.drv) nodes
    → IsPlanNode (nodes ++ more) kept
kept_grows nodes more kept right stays = record {
  numbers = numbers_grow _ _ _ _ right.numbers;
  has_kind = right.has_kind;
  has_hash = hash_grows nodes more kept.drv kept.kind kept.hash right.has_hash;
  outputs = right.outputs;
  sources = right.sources;
  first = right.first ∙ sym stays;
}
  where
    hash_grows : (ns ms : List Node) (drv : Drv) (kind : Kind) (hash : List ℕ)
        → HasHash ns drv kind hash → HasHash (ns ++ ms) drv kind hash
    hash_grows ns ms drv kind hash has = search (rules, hashes_grow)

-- with each earlier derivation this one shares no output path, or is its twin
apart_drv : (kept : List PlanNode) (drv : Drv) (owners : List ℕ → Option ℕ)
    → AreOwners owners (outputs_of kept ++ output_paths_of drv ∷ []) → (earlier : Node)
    → Contains (nodes_of kept) earlier
    → (ShareOutput earlier.drv drv → ⊥) ⊎ AreTwins earlier.drv drv
apart_drv kept drv owners right earlier has =
    let source = Contains-from_map node_of _ _ has in
    let index = get_from_contains _ _ source.1 in
    let drvs : source.0.drv ≡ earlier.drv = ap (λ (n : Node). n.drv) source.2 in
    let left = outputs_of kept in
    let its : slice_get left index.0 ≡ Some (output_paths_of earlier.drv) =
    get_mapped (λ (k : PlanNode). output_paths_of k.drv) kept index.0 _ index.1
    ∙ ap (λ (d : Drv). Some (output_paths_of d)) drvs in
    ⊎_elim
    (λ none. inl (λ shared. none shared.0.path
    (Contains-map (λ (o : Output). o.path) _ _ shared.2)
    (subst (Contains (output_paths_of drv)) (sym shared.4)
    (Contains-map (λ (o : Output). o.path) _ _ shared.3))))
    inr
    (apart_or_same owners (left ++ output_paths_of drv ∷ []) index.0 (length left)
    (output_paths_of earlier.drv) (output_paths_of drv) right
    (get_grows left (output_paths_of drv ∷ []) index.0 (output_paths_of earlier.drv) its)
    (get_pushed left _))

-- what is kept is right with one derivation more
kept_push : (kept : List PlanNode) (one : PlanNode) → AreKept kept → IsPlanNode (nodes_of kept) one
    → AreKept (kept ++ one ∷ [])
kept_push kept one right new =
    let nodes = nodes_of kept in
    let twins : PlanNode → Node → Bool = λ k n. are_twins n.drv k.drv in
    let grow : (k : PlanNode) → IsPlanNode nodes k
    → position_or_len (twins k) (nodes ++ node_of one ∷ [])
    ≡ position_or_len (twins k) nodes → IsPlanNode (nodes_of (kept ++ one ∷ [])) k =
    λ k is stays. subst (λ ns. IsPlanNode ns k) (sym (map_push node_of _ _))
    (kept_grows _ _ k is stays) in
    All-push (IsPlanNode (nodes_of (kept ++ one ∷ []))) _ _
    (All-from_contains (IsPlanNode (nodes_of (kept ++ one ∷ []))) _
    (λ k has. grow k (All-contains (IsPlanNode nodes) _ k right has)
    (position_grows (twins k) _ _ _ (Contains-map node_of kept k has)
    (twins_alone k.drv))))
    (grow one new (position_push (twins one) nodes (node_of one) (twins_alone one.drv)))

-- what was left is right with one derivation more
found_right :
    {profile : Profile} (dir : List ℕ) (kept : List PlanNode) (after : WalkState) (one : PlanNode)
    (owners : List ℕ → Option ℕ) (outputs : List (List ℕ)) →
    AreKept kept →
    AreDistinct (paths_of (nodes_of kept)) →
    AreLawful profile dir (nodes_of kept) →
    IsPlanNode (nodes_of kept) one →
    (Contains (paths_of (nodes_of kept)) one.path → ⊥) →
    MayAnswer profile dir (nodes_of kept) (node_of one) (Ok one.kind) →
    All (λ (n : Node). AreDistinct (output_paths_of n.drv)) (nodes_of kept) →
    AreDistinct (output_paths_of one.drv) →
    outputs ≡ output_paths_of one.drv →
    AreOwners owners (outputs_of kept ++ outputs ∷ []) →
    after.nodes.items ≡ kept ++ one ∷ [] →
    owned after.owners ≡ owners →
    IsWalkSoFar profile dir after
found_right
    {profile} dir kept after one owners outputs right distinct lawful is_kept new answer others once
    are entered grown same = record {
      kept = subst AreKept (sym grown) (kept_push _ _ right is_kept);
      distinct = subst (λ l. AreDistinct (paths_of (nodes_of l))) (sym grown)
          (subst (λ ns. AreDistinct (paths_of ns)) (sym (map_push node_of _ _))
          (subst AreDistinct (sym (map_push (λ (n : Node). n.path) _ _))
          (distinct_push _ _ distinct new)));
      lawful = subst (λ l. AreLawful profile dir (nodes_of l)) (sym grown)
          (subst (AreLawful profile dir) (sym (map_push node_of _ _))
          (lawful_push _ _ _ lawful is_lawful));
      own_outputs =
          subst (λ l. All (λ (n : Node). AreDistinct (output_paths_of n.drv)) (nodes_of l))
          (sym grown)
          (subst (All (λ (n : Node). AreDistinct (output_paths_of n.drv)))
          (sym (map_push node_of _ _))
          (All-push (λ (n : Node). AreDistinct (output_paths_of n.drv)) _
          _ others once));
      owners = subst (λ o. AreOwners o (outputs_of after.nodes.items)) (sym same)
          (subst (λ l. AreOwners owners (outputs_of l)) (sym grown)
          (subst (AreOwners owners)
          (sym (map_push (λ (k : PlanNode). output_paths_of k.drv) _ _)) its_entered));
    }
  where
    its_entered : AreOwners owners (outputs_of kept ++ output_paths_of one.drv ∷ [])
    its_entered = search rules

    is_lawful : IsLawful profile dir (nodes_of kept) (node_of one)
    is_lawful = search (rules, apart_drv, its_entered)

-- the owner of its outputs is its first twin
its_first : {profile : Profile} (dir : List ℕ) (kept : List PlanNode) (visit : Visit) (kind : Kind)
    (owners : List ℕ → Option ℕ) (first : ℕ) (entered : List (List ℕ))
    → MayAnswer profile dir (nodes_of kept) (visited visit) (Ok kind)
    → entered ≡ output_paths_of visit.drv
    → AreOwners owners (outputs_of kept ++ entered ∷ []) × AreOwnedBy owners first entered
    → first ≡ position_or_len (λ (n : Node). are_twins n.drv visit.drv) (nodes_of kept)
its_first dir kept visit kind owners first entered right are owned_right =
    let some = some_output visit.drv _ right.check.0.has_kind in
    let both : AreOwners owners (outputs_of kept ++ output_paths_of visit.drv ∷ [])
    × AreOwnedBy owners first (output_paths_of visit.drv) =
    subst (λ l. AreOwners owners (outputs_of kept ++ l ∷ []) × AreOwnedBy owners first l) are
    owned_right in
    owner_first kept visit.drv owners _ some.0.path both.0 both.1
    (Contains-map (λ (o : Output). o.path) visit.drv.outputs some.0 some.1)

-- a derivation is left
pub leaving_kept :
    {profile : Profile} (dir : List ℕ) (before after : WalkState) (visit : Visit) (kind : Kind)
    (hash : List ℕ)
    (outputs sources : Vec (List ℕ)) (first : ℕ) (given : List PlanNode) (entered : List (List ℕ))
    (owners : List ℕ → Option ℕ) →
    IsWalkSoFar profile dir before →
    IsVisit (nodes_of before.nodes.items) visit →
    HasAllNumbers visit →
    (Contains (paths_of (nodes_of before.nodes.items)) visit.path → ⊥) →
    MayAnswer profile dir (nodes_of before.nodes.items) (visited visit) (Ok kind)
    × HasHash (nodes_of before.nodes.items) visit.drv kind hash →
    outputs.items ≡ output_paths_of visit.drv →
    sources.items ≡ visit.drv.sources →
    given ≡ before.nodes.items →
    entered ≡ outputs.items →
    IsRising (output_names visit.drv) →
    AreOwners owners (outputs_of given ++ entered ∷ []) × AreOwnedBy owners first entered →
    after.nodes.items ≡ before.nodes.items
    ++ kept_visit visit kind hash outputs sources first ∷ [] →
    owned after.owners ≡ owners →
    SetsEntry (marked before.marks) (marked after.marks) visit.path
    (Some (length before.nodes.items)) →
    length (keys after.marks) ≡ length (keys before.marks) →
    LeavesVisit profile dir before after visit
leaving_kept dir before after visit kind hash outputs sources first given entered owners
    found is all new right are lent same own rising owning grown owners_same marks count =
    let kept = before.nodes.items in
    let one : PlanNode = kept_visit visit kind hash outputs sources first in
    let numbers = all_numbers _ _ is all in
    let entered_right : AreOwners owners (outputs_of kept ++ entered ∷ [])
    × AreOwnedBy owners first entered =
    subst (λ k. AreOwners owners (outputs_of k ++ entered ∷ []) × AreOwnedBy owners first entered)
    same owning in
    let is_kept : IsPlanNode (nodes_of kept) (kept_visit visit kind hash outputs sources first) =
    record {
      numbers = numbers;
      has_kind = right.0.check.0.has_kind;
      has_hash = right.1;
      outputs = are;
      sources = lent;
      first = its_first _ _ visit _ owners _ _ right.0 (own ∙ are) entered_right;
    } in
    record {
      nodes = ap nodes_of grown ∙ map_push node_of _
          _;
      found = found_right _ _ _ _ owners
          _ found.kept found.distinct found.lawful is_kept new right.0 found.own_outputs
          (own_outputs _ _ _ _ right.0 rising) (own ∙ are) entered_right.0 grown owners_same;
      marks = marks;
      count = count;
    }

-- what the check of an open derivation answered, at the nodes that it was lent
pub checking_right : {profile : Profile} (dir : List ℕ) (kept given : List PlanNode)
    (visit : Visit) (kind : Kind)
    (hash : List ℕ) → given ≡ kept → MayAnswer profile dir (nodes_of given) (visited visit)
    (Ok kind)
    × HasHash (nodes_of given) visit.drv kind hash
    → MayAnswer profile dir (nodes_of kept) (visited visit) (Ok kind)
    × HasHash (nodes_of kept) visit.drv kind hash
checking_right dir kept given visit kind hash same right = search rules
