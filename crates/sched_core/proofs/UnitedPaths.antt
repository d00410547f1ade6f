-- Two rising lists, put together from their ends.
use Rattle.std.proofs.Common.{◌≡◌, ◌∙◌, ◌⊎◌, ◌+◌, ◌<◌, ◌≤◌, ℕ, List, [], ◌∷◌, ◌++◌, length, take, drop, get_or, refl, reverse, sym, ap, subst, inl, inr, ⊎_elim, append_assoc, arith, length-drop, Err, rules}
use Rattle.std.specs.Prelude.{Contains, ◌↔◌}
use Rattle.std.specs.Cmp.Lexicographic.{slice_cmp, texts_ties}
use Rattle.std.specs.List.{HoldsAt}
use Rattle.std.specs.List.Sorted.{IsBinarySearchResult}
use Rattle.std.specs.Ordering.{is_eq, is_lt, nat_cmp, ordering_reverse}
use Rattle.std.specs.declared.cmp.Ordering.TheVariants.{Equal, Greater}
use Rattle.std.proofs.lemmas.Cmp.{nat_list_cmp_total}
use Rattle.std.proofs.lemmas.List.{get_or-take, get_or-drop, length-take, reverse-append, reverse-reverse}
use Rattle.std.proofs.lemmas.List.Elements.{Contains-append_cases, Contains-append_left, Contains-append_right, Contains-push, Contains-push_cases}
use Rattle.std.proofs.lemmas.List.Sorted.{searchable_from_sorted}
use Rattle.std.proofs.lemmas.Map.Keys.{Less-from_sorted}
use Rattle.nix_names.specs.Rising.{IsRising}
use Rattle.nix_names.proofs.Lists.{Contains-cons_cases, Contains-first, Contains-later, Contains-nothing}
use Rattle.nix_names.proofs.RisingLists.{IsBelow, below_trans, equal_from_eq, first_below, rising_back, rising_front, rising_later, sorted_from_rising}
use Rattle.valid_table.specs.Unions.{IsInEither, IsUnion}

-- ---- rising lists, end to end

-- what stands in the first of two lists is below what stands in the second
rising_across : (xs ys : List (List ℕ)) (x y : List ℕ) → IsRising (xs ++ ys) → Contains xs x
    → Contains ys y → IsBelow x y
rising_across [] ys x y rises has has' = absurd (Contains-nothing x has)
rising_across (z ∷ zs) ys x y rises has has' =
    ⊎_elim
    (λ is. subst (λ w. IsBelow w y) is
    (first_below z _ y rises (Contains-append_right _ _ y has')))
    (λ later. rising_across zs ys x y (rising_later z (zs ++ ys) rises) later has')
    (Contains-cons_cases z _ x has)

rising_append : (xs ys : List (List ℕ)) → IsRising xs → IsRising ys
    → ((x y : List ℕ) → Contains xs x → Contains ys y → IsBelow x y) → IsRising (xs ++ ys)
rising_append [] ys rises rises' below = rises'
rising_append (x ∷ []) [] rises rises' below = tt
rising_append (x ∷ []) (y ∷ ys) rises rises' below = search (rules, Contains-first)
rising_append (x ∷ z ∷ zs) ys rises rises' below = (
  rises.0,
  rising_append (z ∷ zs) ys rises.1 rises'
      (λ w y has. below w y (Contains-later x (z ∷ zs) w has)),
)

-- ---- the index of a path

-- where a path is not found, what stands before the index is below it, and what stands after above
pub record IsGap (paths : List (List ℕ)) (path : List ℕ) (index : ℕ) : Type 0 where
  pub before : (x : List ℕ) → Contains (take index paths) x → IsBelow x path
  pub above : (x : List ℕ) → Contains (drop index paths) x → IsBelow path x

pub found_told :
    (paths : List (List ℕ)) (path : List ℕ) (index : ℕ) →
    index < length paths →
    HoldsAt (λ y. slice_cmp nat_cmp y path ≡ Equal) paths index →
    Contains paths path
found_told paths path index within here = (
  index,
  within,
  equal_from_eq _ _
      (texts_ties (get_or paths index path) path ∙ ap is_eq (here path)),
)

pub gap_told :
    (paths : List (List ℕ)) (path : List ℕ) (index : ℕ) →
    IsRising paths →
    index ≤ length paths →
    IsBinarySearchResult (λ y. slice_cmp nat_cmp y path) paths (Err index) →
    IsGap paths path index
gap_told paths path index rises within told =
    let sides = told
    (searchable_from_sorted nat_list_cmp_total (λ (p : List ℕ). p) paths path
    (λ j d low lt. ap is_lt
    (nat_list_cmp_total.antisymm (get_or paths (j + 1) d) (get_or paths j d)
    ∙ ap ordering_reverse
    (Less-from_sorted (slice_cmp nat_cmp) _ j _ d (sorted_from_rising _ rises)
    (omega arith) lt)))) in
    record {
      before = λ x has.
          let k = has.0 in
          let lt : k < index = omega (arith, has.1, length-take index paths) in
          subst (λ y. IsBelow y path) (sym (get_or-take index paths k x lt) ∙ has.2)
          (sides.0 k x (omega arith) lt);
      above = λ x has.
          let k = has.0 in
          let lt : index + k < length paths = omega (arith, has.1, length-drop index paths) in
          let greater : slice_cmp nat_cmp (get_or paths (index + k) x) path
          ≡ Greater = sides.1 (index + k) x (omega arith) lt in
          subst (IsBelow path) (sym (get_or-drop index paths k x) ∙ has.2)
          (nat_list_cmp_total.antisymm path (get_or paths (index + k) x)
          ∙ ap ordering_reverse greater);
    }

-- ---- the lists as they are put together

-- a path is in one of three lists
abbrev IsInAny : (below left above : List (List ℕ)) → List ℕ → Type 0
IsInAny below left above path = Contains below path ⊎ (Contains left path ⊎ Contains above path)

-- What is left of two lists, and what stands above both: either rises with it, and all three have
-- the paths of the two lists.
pub record IsUniting (paths others below left above : List (List ℕ)) : Type 0 where
  pub below_rises : IsRising (below ++ above)
  pub left_rises : IsRising (left ++ above)
  pub each : (path : List ℕ) → IsInEither paths others path ↔ IsInAny below left above path

module _ (paths others below left above : List (List ℕ)) (path : List ℕ)
    (before : IsUniting paths others below (left ++ path ∷ []) above) where
  -- the last of the second list is below what stands above
  last_below : (y : List ℕ) → Contains above y → IsBelow path y
  last_below y has = search (rules, rising_across, Contains-push)

  -- and above the others of that list
  left_below : (x : List ℕ) → Contains left x → IsBelow x path
  left_below x has = search (rules, rising_across, rising_front, Contains-first)

  left_alone : IsRising left
  left_alone = search (rules, rising_front)

  -- a path that the first list has is left out
  pub uniting_found : Contains below path → IsUniting paths others below left above
  uniting_found there = record {
    below_rises = before.below_rises;
    left_rises =
        rising_append _ _ left_alone
        (rising_back _ _ before.left_rises)
        (λ x y has has'. below_trans x _ y (left_below x has) (last_below y has'));
    each = λ p. (
      λ has. ⊎_elim inl
          (λ more. ⊎_elim
          (λ last. ⊎_elim (λ earlier. inr (inl earlier))
          (λ is. inl (subst (Contains below) is there))
          (Contains-push_cases _ _ p last))
          (λ up. inr (inr up)) more)
          ((before.each p).0 has),
      λ has. (before.each p).1
          (⊎_elim inl
          (λ more. inr
          (⊎_elim (λ earlier. inl (Contains-append_left _ _ p earlier)) inr more))
          has),
    );
  }

  -- another path goes above, after what stands above it in the first list
  pub uniting_inserted :
      (front tail : List (List ℕ)) →
      below ≡ front ++ tail →
      ((x : List ℕ) → Contains front x → IsBelow x path) →
      ((x : List ℕ) → Contains tail x → IsBelow path x) →
      IsUniting paths others front left (path ∷ (tail ++ above))
  uniting_inserted front tail parts lower higher =
      let joined : below ++ above ≡ front ++ (tail ++ above) = ap (λ l. l ++ above) parts
      ∙ append_assoc front tail above in
      let rises = subst IsRising joined before.below_rises in
      let up : (y : List ℕ) → Contains (tail ++ above) y → IsBelow path y =
      λ y has. ⊎_elim (higher y) (last_below y) (Contains-append_cases _ _ y has) in
      let head : IsRising (path ∷ (tail ++ above)) =
      rising_append (path ∷ []) _ tt (rising_back _ _ rises)
      (λ x y has has'. ⊎_elim (λ is. subst (λ w. IsBelow w y) is (up y has'))
      (λ none. absurd (Contains-nothing x none)) (Contains-cons_cases _ [] x has)) in
      let over : (x y : List ℕ) → IsBelow x path → Contains (path ∷ (tail ++ above)) y
      → IsBelow x y =
      λ x y less has. ⊎_elim (λ is. subst (IsBelow x) is less)
      (λ later. below_trans x _ y less (up y later))
      (Contains-cons_cases _ _ y has) in
      record {
        below_rises =
            rising_append _ _
            (rising_front _ _ rises) head
            (λ x y has has'. over x y (lower x has) has');
        left_rises =
            rising_append _ _ left_alone head
            (λ x y has has'. over x y (left_below x has) has');
        each = λ p.
            let later : Contains (tail ++ above) p → Contains (path ∷ (tail ++ above)) p =
            Contains-later _ _ p in (
              λ has. ⊎_elim
                  (λ there. ⊎_elim inl
                  (λ past. inr (inr (later (Contains-append_left _ _ p past))))
                  (Contains-append_cases _ _ p
                  (subst (λ l. Contains l p) parts there)))
                  (λ more. ⊎_elim
                  (λ last. ⊎_elim (λ earlier. inr (inl earlier))
                  (λ is. inr (inr (subst (Contains (path ∷ (tail ++ above))) is
                  (Contains-first _ _))))
                  (Contains-push_cases _ _ p last))
                  (λ high. inr (inr (later (Contains-append_right _ _ p high)))) more)
                  ((before.each p).0 has),
              λ has. (before.each p).1
                  (⊎_elim
                  (λ low. inl (subst (λ l. Contains l p) (sym parts)
                  (Contains-append_left _ _ p low)))
                  (λ more. ⊎_elim
                  (λ earlier. inr (inl (Contains-append_left _ _ p earlier)))
                  (λ high. ⊎_elim
                  (λ is. inr (inl (subst (Contains (left ++ path ∷ [])) is
                  (Contains-push _ _))))
                  (λ rest. ⊎_elim
                  (λ past. inl (subst (λ l. Contains l p) (sym parts)
                  (Contains-append_right _ _ p past)))
                  (λ top. inr (inr top))
                  (Contains-append_cases _ _ p rest))
                  (Contains-cons_cases _ _ p high)) more)
                  has),
            );
      }

-- where nothing is left of the second list, both are put together
pub uniting_all : (paths others below above : List (List ℕ))
    → IsUniting paths others below [] above → IsUnion paths others (below ++ above)
uniting_all paths others below above done = record {
  rising = done.below_rises;
  each = λ path. (
    λ has. (done.each path).1
        (⊎_elim inl (λ high. inr (inr high)) (Contains-append_cases _ _ _ has)),
    λ has. ⊎_elim (Contains-append_left _ _ _)
        (λ more. ⊎_elim (λ none. absurd (Contains-nothing _ none))
        (Contains-append_right _ _ _) more)
        ((done.each path).0 has),
  );
}

-- what was put above so far, and the paths that were taken off, in order
pub turned : (above tail : List (List ℕ)) (path : List ℕ)
    → reverse ((above ++ reverse tail) ++ path ∷ []) ≡ path ∷ (tail ++ reverse above)
turned above tail path = search (rules, reverse-append, reverse, reverse-reverse)

pub nothing_left : (paths : List (List ℕ)) → length paths ≡ 0 → paths ≡ []
nothing_left [] none = refl
nothing_left (path ∷ paths) none = absurd (omega (arith, none))
