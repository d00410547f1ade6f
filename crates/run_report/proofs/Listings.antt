-- The derivations that the code lists by path, and what it writes of them.
use Rattle.std.proofs.Common.{◌≡◌, ◌∙◌, ◌⊎◌, ⊎_elim, ℕ, ◌+◌, ◌<◌, Bool, true, false, nat_eq, List, [], ◌∷◌, ◌++◌, map, Some, refl, sym, ap, subst, arith, rules}
use Rattle.std.specs.Prelude.{All, Contains, flat_map, slice_get}
use Rattle.std.specs.Cmp.Lexicographic.{nat_list_eq_equiv, pointwise, slice_cmp}
use Rattle.std.specs.List.{IsDistinct, slice_index_or}
use Rattle.std.specs.List.Sorted.{IsPermutation, IsSortedBy}
use Rattle.std.specs.Ordering.{is_lt, nat_cmp}
use Rattle.std.proofs.lemmas.Bool.{cases_lt, false≢true}
use Rattle.std.proofs.lemmas.List.{map-append}
use Rattle.std.proofs.lemmas.List.Elements.{All-contains, All-head, All-nil, All-push, All-tail, Contains-append_left, Contains-push}
use Rattle.std.proofs.lemmas.List.Folds.{flat_map-map}
use Rattle.std.proofs.lemmas.List.Sorted.{All-permutation, Contains-permutation, IsPermutation-map, IsPermutation-sym, IsPermutation-trans}
use Rattle.std.proofs.lemmas.Map.Keys.{IsDistinct-IsPermutation}
use Rattle.std.proofs.lemmas.Option.{get_or_from_slice_get}
use Rattle.nix_names.specs.Rising.{IsRising}
use Rattle.nix_names.proofs.Lists.{All-from_contains, Contains-from_map, Contains-map, Contains-nothing, Contains-push_cases}
use Rattle.nix_names.proofs.RisingLists.{rising_sorted}
use Rattle.drv_graph.specs.Loading.{AreDistinct}
use Rattle.drv_graph.specs.Nodes.{Node, paths_of}
use Rattle.drv_graph.proofs.Gathering.{sorted_map}
use Rattle.drv_graph.proofs.PathLists.{distinct_push, same_index}
use Rattle.run_report.specs.Reports.{AreByPath, path_at}
use Rattle.run_report.specs.Listing.{AreListed, AreWithin, HasItsPath, IsMarked, listed_in, listed_paths, numbers_of}
use Rattle.run_report.specs.declared.report.listing.Keyed.{Keyed}
use Rattle.run_report.specs.declared.report.listing.Listed.{Listed}

-- ---- the marked ones of the derivations before a number

pub listed_none : (nodes : List Node) (marks : List Bool)
    → AreListed nodes (IsMarked marks 0) []
unfolding IsDistinct
listed_none nodes marks = search (rules, All-nil, Contains-nothing)

below_or_same : (d n : ℕ) → d < n + 1 → (d < n) ⊎ (d ≡ n)
below_or_same d n low = search (rules, cases_lt)

-- one that isn't marked
pub listed_skip : (nodes : List Node) (marks : List Bool) (n : ℕ) (listed : List Listed)
    → slice_index_or marks n false ≡ false → AreListed nodes (IsMarked marks n) listed
    → AreListed nodes (IsMarked marks (n + 1)) listed
listed_skip nodes marks n listed not are = record {
  each = are.each;
  just = λ d. (
    λ has. let before = (are.just d).0 has in (omega (arith, before.0), before.1),
    λ is. ⊎_elim
        (λ below. (are.just d).1 (below, is.1))
        (λ same. absurd
        (false≢true (sym not ∙ ap (λ k. slice_index_or marks k false) (sym same) ∙ is.1)))
        (below_or_same d n is.0),
  );
  once = are.once;
}

-- a listed path is that of a derivation before the number
path_before : (nodes : List Node) (marks : List Bool) (n : ℕ) (listed : List Listed)
    (path : List ℕ) → AreDistinct (paths_of nodes) → AreListed nodes (IsMarked marks n) listed
    → slice_get (paths_of nodes) n ≡ Some path → Contains (listed_paths listed) path → ⊥
path_before nodes marks n listed path distinct are at has =
    let found = Contains-from_map (λ (l : Listed). l.path.now) _ _ has in
    let one = found.0 in
    let there : slice_get (paths_of nodes) one.number
    ≡ Some path = All-contains (HasItsPath nodes) _ _ are.each found.1 ∙ ap Some found.2
    in
    let before = (are.just one.number).0
    (Contains-map (λ (l : Listed). l.number) _ _ found.1) in
    let same = same_index _ _ n _ distinct there at in
    omega (arith, before.0, same)

-- a marked one
listed_push : (nodes : List Node) (marks : List Bool) (n : ℕ) (listed : List Listed)
    (one : Listed) → AreDistinct (paths_of nodes)
    → one.number ≡ n → slice_get (paths_of nodes) n ≡ Some one.path.now
    → slice_index_or marks n false ≡ true
    → AreListed nodes (IsMarked marks n) listed
    → AreListed nodes (IsMarked marks (n + 1)) (listed ++ one ∷ [])
listed_push nodes marks n listed one distinct is at marked are = record {
  each = All-push (HasItsPath nodes) _ _ are.each
      (subst (λ k. slice_get (paths_of nodes) k ≡ Some one.path.now) (sym is) at);
  just = λ d. (
    λ has. ⊎_elim
        (λ earlier. let before = (are.just d).0 earlier in (omega (arith, before.0), before.1))
        (λ same. let d_is : n ≡ d = sym is ∙ same
        in (
          omega (arith, d_is),
          subst (λ k. slice_index_or marks k false ≡ true) d_is marked,
        ))
        (Contains-push_cases _ _ d
        (subst (λ numbers. Contains numbers d) numbers has)),
    λ was. subst (λ numbers. Contains numbers d) (sym numbers)
        (⊎_elim
        (λ below. Contains-append_left _ _ d
        ((are.just d).1 (below, was.1)))
        (λ same. subst (Contains (numbers_of listed ++ one.number ∷ [])) (is ∙ sym same)
        (Contains-push _ _))
        (below_or_same d n was.0)),
  );
  once = subst AreDistinct (sym paths)
      (distinct_push _ _ are.once
      (path_before _ _ n _ _ distinct are at));
}
  where
    numbers : numbers_of (listed ++ one ∷ []) ≡ numbers_of listed ++ one.number ∷ []
    numbers = search (rules, map-append)

    paths : listed_paths (listed ++ one ∷ []) ≡ listed_paths listed ++ one.path.now ∷ []
    paths = search (rules, map-append)

-- one more derivation is listed, after keys
pub keyed_new : (nodes : List Node) (marks : List Bool) (n : ℕ) (keyed more : List Keyed)
    (one : Keyed) → AreDistinct (paths_of nodes)
    → one.listed.number ≡ n → slice_get (paths_of nodes) n ≡ Some one.listed.path.now
    → slice_index_or marks n false ≡ true
    → more ≡ keyed ++ one ∷ [] → AreListed nodes (IsMarked marks n) (listed_in keyed)
    → AreListed nodes (IsMarked marks (n + 1)) (listed_in more)
keyed_new nodes marks n keyed more one distinct is at marked more_is are =
    subst (AreListed nodes (IsMarked marks (n + 1)))
    (sym (ap listed_in more_is ∙ map-append (λ (k : Keyed). k.listed) keyed (one ∷ [])))
    (listed_push _ _ n _ _ distinct is at marked are)

-- ---- by path

-- the paths of listed derivations are those at their numbers
paths_are : (nodes : List Node) (listed : List Listed) → All (HasItsPath nodes) listed
    → listed_paths listed ≡ map (path_at nodes) (numbers_of listed)
paths_are nodes [] each = refl
paths_are nodes (l ∷ listed) each =
    search (
      rules,
      get_or_from_slice_get,
      All-head,
      All-tail,
      paths_are nodes listed (All-tail (HasItsPath nodes) l listed each),
    )

-- sorted by path they rise
listed_by_path : (nodes : List Node) (is_such : ℕ → Type 0) (listed sorted : List Listed)
    → AreListed nodes is_such listed → IsPermutation listed sorted
    → IsSortedBy (λ (a b : Listed). is_lt (slice_cmp nat_cmp a.path.now b.path.now)) sorted
    → AreByPath nodes is_such (numbers_of sorted)
listed_by_path nodes is_such listed sorted are moved ordered = record {
  just = λ d.
      let same = IsPermutation-map (λ (l : Listed). l.number) listed sorted moved in (
        λ has. (are.just d).0
            (Contains-permutation _ _ d
            (IsPermutation-sym (numbers_of listed) (numbers_of sorted) same) has),
        λ is. Contains-permutation _ _ d same
            ((are.just d).1 is),
      );
  rising =
      let distinct = IsDistinct-IsPermutation (pointwise nat_eq) nat_list_eq_equiv.symm
      _ _
      (IsPermutation-map (λ (l : Listed). l.path.now) listed sorted moved) are.once in
      let rises = rising_sorted _
      (sorted_map (λ (l : Listed). l.path.now) _ ordered) distinct in
      subst IsRising
      (paths_are _ _
      (All-permutation (HasItsPath nodes) _ _ moved are.each)) rises;
}

-- so they do where they were sorted by key before
pub keyed_by_path : (nodes : List Node) (is_such : ℕ → Type 0) (keyed by_key : List Keyed)
    (listed sorted : List Listed) → AreListed nodes is_such (listed_in keyed)
    → IsPermutation keyed by_key → listed ≡ listed_in by_key → IsPermutation listed sorted
    → IsSortedBy (λ (a b : Listed). is_lt (slice_cmp nat_cmp a.path.now b.path.now)) sorted
    → AreByPath nodes is_such (numbers_of sorted)
keyed_by_path nodes is_such keyed by_key listed sorted are by is moved ordered =
    listed_by_path _ is_such _ _ are
    (IsPermutation-trans _ _ _
    (subst (IsPermutation (listed_in keyed)) (sym is)
    (IsPermutation-map (λ (k : Keyed). k.listed) keyed by_key by)) moved) ordered

-- those by path are derivations of the plan
pub by_path_within : (nodes : List Node) (marks : List Bool) (count : ℕ) (listed : List Listed)
    → AreByPath nodes (IsMarked marks count) (numbers_of listed) → AreWithin count listed
by_path_within nodes marks count listed by_path =
    All-from_contains (λ (l : Listed). l.number < count) _
    (λ l has. ((by_path.just l.number).0
    (Contains-map (λ (m : Listed). m.number) _ l has)).0)

-- ---- what is written

-- the lines of listed derivations, with others after them, are those of their numbers
pub lines_made : (line : ℕ → List ℕ) (others : List ℕ) (listed : List Listed)
    (start lines text : List ℕ) → start ≡ []
    → lines ≡ start ++ flat_map (λ (l : Listed). line l.number) listed → text ≡ lines ++ others
    → text ≡ flat_map line (numbers_of listed) ++ others
lines_made line others listed start lines text empty first all = search (rules, flat_map-map)
