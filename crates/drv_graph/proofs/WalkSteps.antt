-- The steps of a walk over derivations, as its loop takes them.
use Rattle.std.proofs.Common.{◌≡◌, ◌∙◌, ℕ, ◌+◌, ◌-◌, ◌*◌, ◌^◌, ◌<◌, List, [], ◌∷◌, ◌++◌, length, get_or, reverse, refl, sym, ap, subst, inl, inr, arith, Option, Some, None, Ok, Err, rules}
use Rattle.std.specs.Prelude.{⊤, All, Contains, slice_get}
use Rattle.std.specs.Global.{Vec}
use Rattle.std.proofs.lemmas.List.{length_push, reverse-append}
use Rattle.std.proofs.lemmas.Option.{same_Some, slice_get_read, slice_get_within}
use Rattle.indexmap.specs.IndexMap.{IndexMap, keys}
use Rattle.nix_names.specs.StorePaths.{IsPathOf}
use Rattle.nix_drv.specs.Derivation.{Drv}
use Rattle.nix_drv.specs.Sources.{Answer, GivesSame}
use Rattle.drv_graph.specs.Loading.{IsLoading}
use Rattle.drv_graph.specs.Nodes.{Node, paths_of}
use Rattle.drv_graph.specs.Plans.{MayBeAt}
use Rattle.drv_graph.specs.PlanNodes.{nodes_of}
use Rattle.drv_graph.specs.private.Walks.{IsGoingOn, IsMeetingFault, IsReadingFault, IsVisit, IsVisited, LeavesNone, Opens, marked}
use Rattle.drv_graph.specs.declared.fault.GraphFault.{GraphFault}
use Rattle.drv_graph.specs.declared.fault.GraphFault.TheVariants.{NoMemory, At, Draft, Name}
use Rattle.drv_graph.specs.declared.fault.NodeFault.TheVariants.{Unreadable, TooMany, Text, Cycle, Outputs, OutputClash}
use Rattle.drv_graph.specs.declared.walks.walk_state.WalkState.{WalkState}
use Rattle.drv_graph.specs.declared.walks.walk_state.Visit.{Visit}
use Rattle.drv_graph.specs.Plans.AreLeft.{none_left, passed_over}
use Rattle.std.proofs.lemmas.List.Elements.{All-nil}
use Rattle.drv_graph.proofs.InStore.{sources_in_store}
use Rattle.drv_graph.proofs.Marks.{pending_not_left}
use Rattle.drv_graph.proofs.Walking.{IsWalk, IsWanted, walk_advances, walk_opens}
use Rattle.drv_graph.proofs.WalkEnds.{leaving_fault, meeting_fault, walk_leaves}
use Rattle.nix_names.proofs.Lists.{Contains-first, Contains-from_get}
use Rattle.drv_graph.specs.declared.profile.Profile.{Profile}

-- sources that give the same
pub gives_trans : (G H K : List ℕ → Answer → Type 0) → GivesSame G H → GivesSame H K → GivesSame G K
gives_trans G H K first second path answer = search rules

pub gives_itself : (G : List ℕ → Answer → Type 0) → GivesSame G G
gives_itself G path answer = (λ g. g, λ g. g)

same_stands : (dir : List ℕ) (G H : List ℕ → Answer → Type 0) (path : List ℕ) (drv : Drv)
    → GivesSame G H → MayBeAt dir H path drv → MayBeAt dir G path drv
same_stands dir G H path drv same stands = search rules

same_opens : {S : Type 0} (dir : List ℕ) (G H : List ℕ → Answer → Type 0)
    (before after : IndexMap (List ℕ) (Option ℕ) S) (path : List ℕ) (child : Visit) → GivesSame G H
    → Opens dir H before after path child → Opens dir G before after path child
same_opens dir G H before after path child same opens = search (rules, same_stands)

same_reading : (dir : List ℕ) (G H : List ℕ → Answer → Type 0) (path : List ℕ) (count : ℕ)
    (fault : GraphFault) → GivesSame G H → IsReadingFault dir H path count fault
    → IsReadingFault dir G path count fault
same_reading dir G H path count NoMemory same at = tt
same_reading dir G H path count (At p Unreadable) same at = search rules
same_reading dir G H path count (At p TooMany) same at = search rules
same_reading dir G H path count (At p (Text text)) same at = search rules
same_reading dir G H path count (At p Cycle) same at = absurd at
same_reading dir G H path count (At p (Outputs outputs)) same at = absurd at
same_reading dir G H path count (At p OutputClash) same at = absurd at
same_reading dir G H path count (Draft found) same at = absurd at
same_reading dir G H path count Name same at = absurd at

same_meeting : {S : Type 0} (dir : List ℕ) (G H : List ℕ → Answer → Type 0)
    (before : IndexMap (List ℕ) (Option ℕ) S) (path : List ℕ) (fault : GraphFault) → GivesSame G H
    → IsMeetingFault dir H before path fault → IsMeetingFault dir G before path fault
same_meeting dir G H before path fault same (inl cycle) = inl cycle
same_meeting dir G H before path fault same (inr reading) = search (rules, same_reading)

-- open derivations, innermost first, where one is put on top
pub reverse_push : (below : List Visit) (visit : Visit) → reverse (below ++ visit ∷ []) ≡ visit
    ∷ reverse below
reverse_push below visit = reverse-append below (visit ∷ [])

module _ {profile : Profile} (dir : List ℕ) (G H : List ℕ → Answer → Type 0)
    (roots : List (List ℕ)) (root : List ℕ)
    (start : List Node) where
  popped : (found : WalkState) (before below : List Visit) (visit : Visit)
      → IsWalk profile dir G roots root start found (reverse before) → before ≡ below ++ visit ∷ []
      → IsWalk profile dir G roots root start found (visit ∷ reverse below)
  popped found before below visit walk parts = search (rules, reverse, reverse_push)

  -- what is asked of the innermost open derivation
  pub popped_is : (found : WalkState) (before below : List Visit) (visit : Visit)
      → IsWalk profile dir G roots root start found (reverse before) → before ≡ below ++ visit ∷ []
      → IsVisit (nodes_of found.nodes.items) visit × (marked found.marks visit.path ≡ Some None)
      × (Contains (paths_of (nodes_of found.nodes.items)) visit.path → ⊥)
  popped_is found before below visit walk parts =
      let top = popped _ _ _ _ walk parts in (
        top.pending.0.is_visit,
        (top.walked.marks.is_pending visit.path).1
            (Contains-first _ _),
        pending_not_left (marked found.marks) _
            _ _ top.walked.marks
            (Contains-first _ _),
      )

  -- its sources are in the folder
  pub popped_sources : (found : WalkState) (before below : List Visit) (visit : Visit)
      → IsWalk profile dir G roots root start found (reverse before) → before ≡ below ++ visit ∷ []
      → All (IsPathOf dir) visit.drv.sources
  popped_sources found before below visit walk parts =
      sources_in_store _ _ (popped _ _ _ _ walk parts).pending.0.stands.found.in_store

  wanted_input : (found : WalkState) (visit : Visit) (below : List Visit) (input : List ℕ)
      → IsWalk profile dir G roots root start found (visit ∷ below)
      → slice_get visit.inputs.items (length visit.numbers.items) ≡ Some input
      → IsWanted root (visit ∷ below) input
  wanted_input found visit below input walk is = search rules

  -- the walk goes on
  pub walk_goes_on :
      (found after : WalkState) (before below rest : List Visit) (visit : Visit) (made : ⊤) →
      Contains roots root →
      GivesSame G H →
      IsWalk profile dir G roots root start found (reverse before) →
      before ≡ below ++ visit ∷ [] →
      IsGoingOn profile dir H found after below visit rest (Ok made) →
      IsWalk profile dir G roots root start after (reverse rest)
  walk_goes_on found after before below rest visit made has_root same walk parts (inl left) =
      subst (λ vs. IsWalk profile dir G roots root start after (reverse vs)) (sym left.2)
      (walk_leaves _ G _ _ _ _ _ _ _
      (popped _ _ _ _ walk parts) left.0 left.1)
  walk_goes_on found after before below rest visit made has_root same walk parts
      (inr (inl (next, none, step, is))) =
      subst (IsWalk profile dir G roots root start after)
      (sym (ap reverse is ∙ reverse_push below _))
      (walk_advances _ G _ _ _ _ _ _ _ _
      (popped _ _ _ _ walk parts) none step)
  walk_goes_on found after before below rest visit made has_root same walk parts
      (inr (inr (child, none, step, is))) =
      let top = popped _ _ _ _ walk parts in
      let shape : reverse rest ≡ child ∷ visit ∷ reverse below = ap reverse is
      ∙ reverse_push (below ++ visit ∷ []) child
      ∙ ap (λ l. child ∷ l) (reverse_push below visit) in
      subst (IsWalk profile dir G roots root start after) (sym shape)
      (walk_opens _ G _ _ _ _ _ _ _ _
      has_root top (wanted_input _ _ _ _ top step.is_input) none
      (same_opens _ G H _ _ _ _ same step.opens))

  -- or ends with a fault, which is true
  pub walk_stops :
      (found after : WalkState) (before below rest : List Visit) (visit : Visit)
      (fault : GraphFault) →
      Contains roots root →
      GivesSame G H →
      IsWalk profile dir G roots root start found (reverse before) →
      before ≡ below ++ visit ∷ [] →
      IsGoingOn profile dir H found after below visit rest (Err fault) →
      IsLoading profile dir G roots (Err fault)
  walk_stops found after before below rest visit fault has_root same walk parts (inl refused) =
      search rules
  walk_stops found after before below rest visit fault has_root same walk parts (inr (inl left)) =
      leaving_fault _ G _ _ _ _ _ _ _ (popped _ _ _ _ walk parts) left.1
  walk_stops found after before below rest visit fault has_root same walk parts (inr (inr input)) =
      let top = popped _ _ _ _ walk parts in
      meeting_fault _ G _ _ _ _ _ _ _ has_root
      top (wanted_input _ _ _ _ top input.is_input)
      (same_meeting _ G H found.marks _ _ same input.is_true)

  -- at the root nothing is open
  pub root_opens : (found after : WalkState) (visits : List Visit) (child : Visit)
      → Contains roots root → GivesSame G H
      → IsWalk profile dir G roots root start found (reverse visits) → length visits ≡ 0
      → LeavesNone found after → Opens dir H found.marks after.marks root child
      → IsWalk profile dir G roots root start after (child ∷ [])
  root_opens found after [] child has_root same walk none left opens =
      walk_opens _ G _ _ _ _ _ [] root child has_root walk refl left
      (same_opens _ G H _ _ _ _ same opens)
  root_opens found after (v ∷ vs) child has_root same walk none left opens =
      absurd (omega (arith, none))

  pub root_stops : (found : WalkState) (visits : List Visit) (fault : GraphFault)
      → Contains roots root → GivesSame G H
      → IsWalk profile dir G roots root start found (reverse visits) → length visits ≡ 0
      → IsMeetingFault dir H found.marks root fault → IsLoading profile dir G roots (Err fault)
  root_stops found [] fault has_root same walk none at =
      meeting_fault _ G _ _ _ _ [] root fault has_root walk refl
      (same_meeting dir G H found.marks root fault same at)
  root_stops found (v ∷ vs) fault has_root same walk none at = absurd (omega (arith, none))

-- the root was left, so the walk is done
pub walk_ends :
    {profile : Profile} (dir : List ℕ) (G : List ℕ → Answer → Type 0) (roots : List (List ℕ))
    (root : List ℕ)
    (before found : WalkState) (visits : List Visit) (number : ℕ) →
    IsWalk profile dir G roots root (nodes_of before.nodes.items) found (reverse visits) →
    length visits ≡ 0 →
    marked found.marks root ≡ Some (Some number) →
    IsVisited profile dir G roots root before found number
walk_ends dir G roots root before found (v ∷ vs) number walk none is = absurd (omega (arith, none))
walk_ends dir G roots root before found [] number walk none is =
    let at = (walk.walked.marks.numbered root number).0 is in
    record {
      walked = walk.walked;
      in_order = record {
        more = walk.more;
        grown = walk.grown;
        in_order = λ nodes has.
            walk.order nodes (paths_of (nodes_of found.nodes.items)) has (All-nil (Contains nodes))
            (passed_over root (paths_of (nodes_of found.nodes.items)) []
            (paths_of (nodes_of found.nodes.items))
            (Contains-from_get _ _ _ at)
            (none_left (paths_of (nodes_of found.nodes.items))));
      };
      is_number = at;
    }

-- what open derivations still have to do
abbrev pub work : List Visit → ℕ
work [] = 0
work (v ∷ vs) = (length v.inputs.items - length v.numbers.items) + 1 + work vs

-- what a walk still has to do: at most so many more derivations are opened, each with fewer than
-- 2^64 inputs
abbrev pub to_do : (count : ℕ) → List Visit → ℕ
to_do count visits = (65536 - count) * 36893488147419103232 + work visits

pub less_left : (count after : ℕ) (visit : Visit) (below : List Visit) → after ≡ count
    → to_do after below < to_do count (visit ∷ below)
less_left count after visit below same = search (rules, to_do)

pub less_advanced : (count after : ℕ) (visit next : Visit) (below : List Visit) → after ≡ count
    → length visit.numbers.items < length visit.inputs.items → length next.inputs.items
    ≡ length visit.inputs.items → length next.numbers.items ≡ length visit.numbers.items + 1
    → to_do after (next ∷ below) < to_do count (visit ∷ below)
less_advanced count after visit next below same lt inputs numbers = search (rules, to_do)

pub less_opened : (count after : ℕ) (child : Visit) (visits : List Visit) → after ≡ count + 1
    → count < 65536 → length child.inputs.items < 2 ^ 64 → to_do after (child ∷ visits)
    < to_do count visits
less_opened count after child visits same room few = omega (arith, same, room, few)

vec_fits : (v : Vec (List ℕ)) → length v.items < 2 ^ 64
vec_fits v = omega (arith, v.ok.0, v.small)

-- a walk that goes on has less to do
pub less_going :
    {profile : Profile} (dir : List ℕ) (H : List ℕ → Answer → Type 0) (found after : WalkState)
    (before below rest : List Visit) (visit : Visit) (made : ⊤) →
    before ≡ below ++ visit ∷ [] →
    IsGoingOn profile dir H found after below visit rest (Ok made) →
    to_do (length (keys after.marks)) (reverse rest)
    < to_do (length (keys found.marks)) (reverse before)
less_going {profile} dir H found after before below rest visit made parts going =
    subst (λ vs. to_do (length (keys after.marks)) (reverse rest)
    < to_do (length (keys found.marks)) vs) (sym (ap reverse parts ∙ reverse_push below visit))
    (by going)
  where
    by : IsGoingOn profile dir H found after below visit rest (Ok made)
        → to_do (length (keys after.marks)) (reverse rest)
        < to_do (length (keys found.marks)) (visit ∷ reverse below)
    by (inl left) = search (rules, to_do, reverse, less_left)
    by (inr (inl (next, none, step, is))) =
        search (rules, to_do, reverse, reverse_push, less_advanced, slice_get_within, length_push)
    by (inr (inr (child, none, step, is))) =
        search (rules, to_do, reverse, reverse_push, less_opened, vec_fits)

-- only what is pushed is open
pub reverse_one : (below : List Visit) (visits : List Visit) (visit : Visit) → length below ≡ 0
    → visits ≡ below ++ visit ∷ [] → reverse visits ≡ visit ∷ []
reverse_one [] visits visit none is = ap reverse is
reverse_one (v ∷ vs) visits visit none is = absurd (omega (arith, none))

-- a root that was read
pub root_read : (roots : List (List ℕ)) (index : ℕ) (root other : List ℕ) → index < length roots
    → root ≡ get_or roots index root → slice_get roots index ≡ Some other → root ≡ other
root_read roots index root other lt is at = search (rules, same_Some, slice_get_read)
