-- Lists of paths, and of what has paths: what they contain, and at which indices.
use Rattle.std.proofs.Common.{◌≡◌, ◌∙◌, ℕ, ◌<◌, ◌≤◌, Bool, true, false, List, [], ◌∷◌, ◌++◌, length, take, get_or, refl, sym, ap, subst, inl, inr, ⊎_elim, nat_eq, arith, Some, rules}
use Rattle.std.specs.Prelude.{◌⊎◌, Contains, slice_get}
use Rattle.std.specs.Cmp.Lexicographic.{pointwise, nat_list_eq_equiv}
use Rattle.std.specs.List.{list_any}
use Rattle.std.proofs.lemmas.Bool.{false≢true, false_from_ne_true}
use Rattle.std.proofs.lemmas.Map.Keys.{IsDistinct-push, apart_from_distinct}
use Rattle.std.proofs.lemmas.List.{length_push}
use Rattle.std.proofs.lemmas.Map.Made.{length-le_from_is_member}
use Rattle.std.proofs.lemmas.Map.Views.{Contains-from_any, list_any-from_Contains}
use Rattle.std.proofs.lemmas.Option.{slice_get_within, get_or_from_slice_get}
use Rattle.nix_names.proofs.RisingLists.{equal_from_eq}
use Rattle.nix_names.proofs.Lists.{Contains-cons_cases, Contains-first, Contains-later, Contains-nothing, Contains-push_cases, either_side, get_from_contains}
use Rattle.drv_graph.specs.Loading.{AreDistinct}
use Rattle.drv_graph.specs.Plans.{HaveSamePaths}
use Rattle.drv_graph.proofs.Loops.{slice_get-take}

-- those that differ compare as different
pub other_path : (a b : List ℕ) → (a ≡ b → ⊥) → pointwise nat_eq a b ≡ false
other_path a b ne = false_from_ne_true _ (λ e. ne (equal_from_eq a b e))

-- equality of paths is decided
pub path_cases : (a b : List ℕ) → (a ≡ b) ⊎ (a ≡ b → ⊥)
path_cases a b = by (pointwise nat_eq a b) refl
  where
    by : (t : Bool) → pointwise nat_eq a b ≡ t → (a ≡ b) ⊎ (a ≡ b → ⊥)
    by true e = inl (equal_from_eq a b e)
    by false e = search (rules, false≢true, nat_eq)

-- a path that isn't in a list is found by no look-up
pub unknown : (paths : List (List ℕ)) (path : List ℕ) → (Contains paths path → ⊥)
    → list_any (pointwise nat_eq path) paths ≡ false
unknown paths path new = false_from_ne_true _ (λ e. new (Contains-from_any equal_from_eq _ _ e))

-- whether a path is in a list is decided
pub known_cases : (paths : List (List ℕ)) (path : List ℕ) → Contains paths path
    ⊎ (Contains paths path → ⊥)
known_cases [] path = inr (Contains-nothing _)
known_cases (p ∷ ps) path =
    ⊎_elim (λ same. inl (subst (Contains (p ∷ ps)) same (Contains-first p _)))
    (λ differs.
    ⊎_elim (λ later. inl (Contains-later p _ _ later))
    (λ none. inr (λ has. ⊎_elim differs none (Contains-cons_cases p _ _ has)))
    (known_cases ps path))
    (path_cases p _)

-- one more path, which is new
pub distinct_push : (paths : List (List ℕ)) (path : List ℕ) → AreDistinct paths
    → (Contains paths path → ⊥) → AreDistinct (paths ++ path ∷ [])
distinct_push paths path once new = search (rules, IsDistinct-push, unknown)

-- a path stands at one index
pub same_index : (paths : List (List ℕ)) (i j : ℕ) (path : List ℕ) → AreDistinct paths
    → slice_get paths i ≡ Some path → slice_get paths j ≡ Some path → i ≡ j
same_index paths i j path once at_i at_j = by (either_side i j)
  where
    apart : (a b : ℕ) → a < b → slice_get paths a ≡ Some path → slice_get paths b ≡ Some path → ⊥
    apart a b below at_a at_b =
        let same_a : get_or paths a [] ≡ path = get_or_from_slice_get _ a _ [] at_a in
        let same_b : get_or paths b [] ≡ path = get_or_from_slice_get _ b _ [] at_b in
        let other = apart_from_distinct (pointwise nat_eq) _ a b [] once below
        (slice_get_within paths b path at_b) in
        false≢true (sym other ∙ ap (λ p. pointwise nat_eq p (get_or paths b [])) same_a
        ∙ ap (λ p. pointwise nat_eq path p) same_b ∙ nat_list_eq_equiv.refl path)

    by : (i ≡ j) ⊎ ((i < j) ⊎ (j < i)) → i ≡ j
    by (inl same) = same
    by (inr (inl lt)) = absurd (apart i j lt at_i at_j)
    by (inr (inr gt)) = absurd (apart j i gt at_j at_i)

-- different paths that are among others are no more
pub no_more_than : (xs ys : List (List ℕ)) → AreDistinct xs
    → ((path : List ℕ) → Contains xs path → Contains ys path) → length xs ≤ length ys
no_more_than xs ys once among =
    length-le_from_is_member nat_list_eq_equiv xs ys once
    (λ q is. list_any-from_Contains nat_list_eq_equiv q _
    (among q (Contains-from_any equal_from_eq q _ is)))

-- and are all of them, where those are no more
pub all_among : (xs ys : List (List ℕ)) → AreDistinct xs
    → ((path : List ℕ) → Contains xs path → Contains ys path) → length ys ≤ length xs
    → (path : List ℕ) → Contains ys path → Contains xs path
all_among xs ys once among long path has =
    ⊎_elim (λ is. is) (λ none. absurd (omega (arith, more none, length_push xs path, long)))
    (known_cases _ _)
  where
    more : (Contains xs path → ⊥) → length (xs ++ path ∷ []) ≤ length ys
    more none =
        no_more_than _ _ (distinct_push _ _ once none)
        (λ q is. ⊎_elim (λ old. among q old) (λ same. subst (Contains ys) same has)
        (Contains-push_cases _ _ q is))

-- lists of different paths are as long, where they have the same
pub as_long : (xs ys : List (List ℕ)) → AreDistinct xs → AreDistinct ys → HaveSamePaths xs ys
    → length xs ≡ length ys
as_long xs ys once once' same =
    let up = no_more_than _ _ once (λ q is. (same q).0 is) in
    let down = no_more_than _ _ once' (λ q is. (same q).1 is) in
    omega (arith, up, down)

-- a path that stands at an index stands at none before it
pub not_before : (paths : List (List ℕ)) (i : ℕ) (path : List ℕ) → AreDistinct paths
    → slice_get paths i ≡ Some path → Contains (take i paths) path → ⊥
not_before paths i path once at has =
    let before = get_from_contains _ _ has in
    let there = slice_get-take _ i _ _ before.1 in
    omega (arith, there.0, same_index _ _ i _ once there.1 at)
