-- The test of twins, and the first twin of a derivation.
use Rattle.std.proofs.Common.{◌≡◌, ◌∙◌, ℕ, ◌+◌, ◌<◌, ◌≤◌, Bool, true, false, List, [], ◌∷◌, ◌++◌, length, not, refl, sym, ap, subst, ⊎_elim, arith, Option, Some, rules}
use Rattle.std.specs.Prelude.{Contains, slice_get, if◌then◌else◌}
use Rattle.std.specs.Cmp.Lexicographic.{nat_list_eq_equiv}
use Rattle.std.specs.List.{list_any, position_or_len}
use Rattle.std.proofs.lemmas.Bool.{and_from, and_parts, cases_lt, false_from_ne_true, false≢true}
use Rattle.std.proofs.lemmas.List.{length-map, length_push}
use Rattle.std.proofs.lemmas.List.Elements.{All-contains}
use Rattle.std.proofs.lemmas.List.Sums.{AllPass-from_list_all, fails_before_first, list_all-from_AllPass, position_or_len_is}
use Rattle.std.proofs.lemmas.Map.Views.{Contains-from_any, list_any-from_Contains}
use Rattle.std.proofs.lemmas.Option.{get_or_from_slice_get, same_Some, slice_get_within}
use Rattle.nix_names.specs.Names.{same_bytes}
use Rattle.nix_names.proofs.Lists.{All-from_contains, Contains-cons_cases, Contains-nothing, element_at, get_grows, get_mapped, get_source, same_element}
use Rattle.nix_names.proofs.RisingLists.{equal_from_eq}
use Rattle.nix_drv.specs.Derivation.{Drv}
use Rattle.drv_graph.specs.Nodes.{Node, output_paths_of}
use Rattle.drv_graph.specs.private.Owners.{AreOwnedBy, AreOwners, outputs_of}
use Rattle.drv_graph.specs.PlanNodes.{node_of, nodes_of}
use Rattle.drv_graph.specs.Plans.{AreTwins}
use Rattle.drv_graph.specs.TwinLaws.{TwinsAreTold}
use Rattle.drv_graph.specs.Twins.{are_among, are_twins, are_twins_at, first_twin_of}
use Rattle.drv_graph.specs.declared.plans.node.PlanNode.{PlanNode}

-- ---- the test of twins

pub among_has : (paths others : List (List ℕ)) (path : List ℕ) → are_among paths others ≡ true
    → Contains paths path → Contains others path
among_has paths others path all has =
    let known : List ℕ → Bool = λ p. list_any (same_bytes p) others in
    Contains-from_any equal_from_eq _ _
    (All-contains (λ p. known p ≡ true) _ _ (AllPass-from_list_all known _ all) has)

pub among_from : (paths others : List (List ℕ))
    → ((path : List ℕ) → Contains paths path → Contains others path) → are_among paths others
    ≡ true
among_from paths others each =
    let known : List ℕ → Bool = λ p. list_any (same_bytes p) others in
    list_all-from_AllPass known _
    (All-from_contains (λ p. known p ≡ true) _
    (λ path has. list_any-from_Contains nat_list_eq_equiv _ _ (each path has)))

pub twins_are_told : TwinsAreTold
twins_are_told a b =
    let mine = output_paths_of a in
    let theirs = output_paths_of b in (
      λ told. let parts = and_parts (are_among mine theirs) (are_among theirs mine) told
          in λ path. (among_has _ _ _ parts.0, among_has _ _ _ parts.1),
      λ twins. and_from _ _
          (among_from _ _ (λ path. (twins path).0))
          (among_from _ _ (λ path. (twins path).1)),
    )

-- each derivation is a twin of itself
pub twins_alone : (a : Drv) → are_twins a a ≡ true
twins_alone a = search (rules, twins_are_told)

-- ---- the first of a list that passes a test

module _ {X : Type 0} (p : X → Bool) where
  at : (x : X) (xs : List X) (b : Bool) → p x ≡ b → position_or_len p (x ∷ xs)
      ≡ (if not b then 1 + position_or_len p xs else 0)
  at x xs b is = search (rules, not)

  -- one element more in front of lists that have it at one index
  after : (z : X) (xs ys : List X) (b : Bool) → p z ≡ b
      → (b ≡ false → position_or_len p xs ≡ position_or_len p ys)
      → position_or_len p (z ∷ xs) ≡ position_or_len p (z ∷ ys)
  after z xs ys true is same = search (rules, at)
  after z xs ys false is same = search (rules, at)

  -- it stays the first as the list grows
  pub position_grows : (xs ys : List X) (x : X) → Contains xs x → p x ≡ true
      → position_or_len p (xs ++ ys) ≡ position_or_len p xs
  position_grows [] ys x has passes = absurd (Contains-nothing x has)
  position_grows (z ∷ xs) ys x has passes =
      after z _ _ _ refl
      (λ fails. position_grows xs ys x
      (⊎_elim (λ same. absurd (false≢true (sym fails ∙ ap p same ∙ passes))) (λ later. later)
      (Contains-cons_cases z _ x has)) passes)

  -- where there is none, the first stands after the list, as one that is added does
  pub position_push : (xs : List X) (x : X) → p x ≡ true → position_or_len p (xs ++ x ∷ [])
      ≡ position_or_len p xs
  position_push [] x passes = at x [] true passes
  position_push (z ∷ xs) x passes = search (rules, after, position_push xs x passes)

-- ---- the first twin, by the owners of outputs

module _ (kept : List PlanNode) (drv : Drv) (owners : List ℕ → Option ℕ) (first : ℕ) (path : List ℕ)
    (right : AreOwners owners (outputs_of kept ++ output_paths_of drv ∷ []))
    (own : AreOwnedBy owners first (output_paths_of drv))
    (has : Contains (output_paths_of drv) path)
  where
    abbrev all : List (List (List ℕ))
    all = outputs_of kept ++ output_paths_of drv ∷ []

    -- the outputs of a derivation that was left, among all
    left_at : (k : ℕ) (node : Node) → slice_get (nodes_of kept) k ≡ Some node → slice_get all k
        ≡ Some (output_paths_of node.drv)
    left_at k node is =
        let source = get_source node_of _ k _ is in
        get_grows _ _ k _
        (get_mapped (λ (n : PlanNode). output_paths_of n.drv) _ k _ source.1
        ∙ ap (λ (n : Node). Some (output_paths_of n.drv)) source.2)

    -- who has one of the outputs is owned by their owner
    one_owner : (outputs : List (List ℕ)) (m : ℕ) → AreOwnedBy owners m outputs
        → Contains outputs path → m ≡ first
    one_owner outputs m theirs there = same_Some m first
        (sym ((theirs path).0 there) ∙ (own path).0 has)

    -- a twin has no smaller number
    no_smaller : (k : ℕ) (node : Node) → slice_get (nodes_of kept) k ≡ Some node
        → AreTwins node.drv drv → first ≤ k
    no_smaller k node is twins =
        let its = right.of_each k (output_paths_of node.drv) (left_at k _ is) in
        let same = one_owner _ _ its.2 ((twins path).1 has) in
        omega (arith, same, its.1)

    -- the owner is a twin
    owner_twin : (node : Node) → slice_get (nodes_of kept) first ≡ Some node → AreTwins node.drv drv
    owner_twin node is =
        let theirs = output_paths_of node.drv in
        let found = right.has path first ((own path).0 has) in
        let there : Contains theirs path = subst (λ l. Contains l path)
        (same_element all first found.0 theirs found.1 (left_at first node is)) found.2 in
        let its = right.of_each first theirs (left_at _ _ is) in
        let same = one_owner _ _ its.2 there in
        λ q. (
          λ mine. (own q).1 ((its.2 q).0 mine ∙ ap Some same),
          λ mine. (its.2 q).1 ((own q).0 mine ∙ ap Some (sym same)),
        )

    -- the owner was left, or has the next number
    owner_low : first ≤ length (nodes_of kept)
    owner_low =
        let found = right.has path first ((own path).0 has) in
        let low = slice_get_within all first found.0 found.1 in
        omega (
          arith,
          low,
          length_push (outputs_of kept) (output_paths_of drv),
          length-map kept (λ (n : PlanNode). output_paths_of n.drv),
          length-map kept node_of,
        )

    pub owner_first : first ≡ position_or_len (λ (n : Node). are_twins n.drv drv) (nodes_of kept)
    owner_first =
        let nodes = nodes_of kept in
        let test : Node → Bool = λ n. are_twins n.drv drv in
        let other : Node = record { path = path; drv = drv } in
        sym (position_or_len_is test _ _ other owner_low
        (λ k below.
        let there = element_at _ k (omega (arith, below, owner_low)) in
        let read = get_or_from_slice_get _ k _ _ there.1 in
        ap test read
        ∙ false_from_ne_true _
        (λ passes.
        let within = no_smaller k _ there.1 ((twins_are_told there.0.drv drv).0 passes)
        in omega (arith, below, within)))
        (λ low.
        let there = element_at _ _ low in
        ap test (get_or_from_slice_get nodes first _ other there.1)
        ∙ (twins_are_told there.0.drv drv).1 (owner_twin _ there.1)))

-- ---- the number of the first

-- no twin has a smaller number than the first
pub no_later : (nodes : List Node) (d k : ℕ) (node : Node) → slice_get nodes k ≡ Some node
    → are_twins_at (slice_get nodes k) (slice_get nodes d) ≡ true → first_twin_of nodes d ≤ k
no_later nodes d k node at are =
    let test : Node → Bool = λ n. are_twins_at (Some n) (slice_get nodes d) in
    let passes : test node ≡ true = subst (λ o. are_twins_at o (slice_get nodes d) ≡ true) at are
    in
    ⊎_elim
    (λ less. absurd
    (false≢true
    (sym (fails_before_first test _ k _ less)
    ∙ ap test (get_or_from_slice_get nodes k node node at) ∙ passes)))
    (λ within. within)
    (cases_lt k (first_twin_of nodes d))

-- a derivation's first twin has no greater number than its own
pub first_within : (nodes : List Node) (d : ℕ) → d < length nodes → first_twin_of nodes d ≤ d
first_within nodes d low =
    let there = element_at _ d low in
    no_later nodes d d there.0 there.1
    (subst (λ o. are_twins_at o o ≡ true) (sym there.1) (twins_alone there.0.drv))
