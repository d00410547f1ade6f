-- Two rising lists, merged.
use Rattle.std.proofs.Common.{◌≡◌, ◌∙◌, ◌⊎◌, ◌↔◌, ◌-◌, ◌<◌, ℕ, List, [], ◌∷◌, ◌++◌, length, take, drop, get_or, sym, ap, subst, inl, inr, ⊎_elim, append-nil, append_assoc, arith, rules}
use Rattle.std.specs.Prelude.{Contains}
use Rattle.std.specs.Cmp.Lexicographic.{slice_cmp, texts_ties}
use Rattle.std.specs.Ordering.{is_eq, nat_cmp, ordering_reverse}
use Rattle.std.specs.declared.cmp.Ordering.TheVariants.{Less, Equal, Greater}
use Rattle.std.proofs.lemmas.Cmp.{nat_list_cmp_total}
use Rattle.std.proofs.lemmas.List.{take_all}
use Rattle.std.proofs.lemmas.List.Elements.{Contains-append_cases, Contains-append_left, Contains-append_right}
use Rattle.nix_names.specs.Rising.{IsRising}
use Rattle.nix_names.proofs.RisingLists.{equal_from_eq, rising_back}
use Rattle.valid_table.specs.private.Merging.{IsLeastHead}
use Rattle.valid_table.specs.Unions.{IsInEither, IsUnion}
use Rattle.nix_names.proofs.Lists.{Contains-later}

-- a path at the head is in the list
at_head : (x : List ℕ) (xs ys : List (List ℕ)) (p : List ℕ) → Contains (x ∷ []) p
    → Contains (x ∷ ys) p
at_head x xs ys p there = Contains-append_left (x ∷ []) ys p there

-- a path in a list is at its head or after it
head_cases : (x : List ℕ) (xs : List (List ℕ)) (p : List ℕ) → Contains (x ∷ xs) p
    → Contains (x ∷ []) p ⊎ Contains xs p
head_cases x xs p there = Contains-append_cases (x ∷ []) xs p there

-- the left list's head is the least
least_left : (path : List ℕ) (more right : List (List ℕ)) → (IsRising right
    → IsRising (path ∷ right)) → IsLeastHead (path ∷ more) right path more right
least_left path more right rises = search (rules, Contains-later, at_head, head_cases)

-- the right list's head is the least
least_right : (path : List ℕ) (left others : List (List ℕ)) → (IsRising left
    → IsRising (path ∷ left)) → IsLeastHead left (path ∷ others) path left others
least_right path left others rises = search (rules, Contains-later, at_head, head_cases)

-- two lists that aren't empty
module _ (left right : List (List ℕ)) (path other : List ℕ) (more others : List (List ℕ))
    (first : left ≡ path ∷ more) (second : right ≡ other ∷ others) where
  -- the left head is less
  pub least_less : slice_cmp nat_cmp path other ≡ Less → IsLeastHead left right path more right
  least_less less = rw (first, second) (least_left _ _ _ (λ rises. (less, rises)))

  -- the right head is less
  pub least_greater : slice_cmp nat_cmp path other ≡ Greater
      → IsLeastHead left right other left others
  least_greater greater =
      let less : slice_cmp nat_cmp other path ≡ Less = nat_list_cmp_total.antisymm other path
      ∙ ap ordering_reverse greater in
      rw (first, second) (least_right _ _ _ (λ rises. (less, rises)))

  -- the heads are the same
  pub least_equal : slice_cmp nat_cmp path other ≡ Equal → IsLeastHead left right path more others
  least_equal equal =
      let same : path ≡ other = equal_from_eq _ _ (texts_ties path other ∙ ap is_eq equal)
      in
      rw (first, second, same) (search rules)

-- a list that isn't empty is its first element and what is after it
pub first_and_rest : (xs : List (List ℕ)) (x : List ℕ) → 0 < length xs → x ≡ get_or xs 0 x → xs ≡ x
    ∷ take (length xs - 1) (drop 1 xs)
first_and_rest [] x some is = absurd (omega arith)
first_and_rest (y ∷ ys) x some is = search (rules, take_all)

-- a rising list goes on in another way after one of its paths
rising_join : (done : List (List ℕ)) (path : List ℕ) (xs ys : List (List ℕ))
    → IsRising (done ++ path ∷ xs) → IsRising (path ∷ ys) → IsRising (done ++ path ∷ ys)
rising_join [] path xs ys rises after = after
rising_join (x ∷ []) path xs ys rises after = (rises.0, after)
rising_join (x ∷ y ∷ done) path xs ys rises after =
    (rises.0, rising_join (y ∷ done) path xs ys rises.1 after)

-- What is merged so far, with what is left: each rises, and they have the paths of both lists.
pub record IsMerged (left right done more others : List (List ℕ)) : Type 0 where
  pub left_rises : IsRising (done ++ more)
  pub right_rises : IsRising (done ++ others)
  pub each : (p : List ℕ) → IsInEither left right p ↔ IsInEither (done ++ more) (done ++ others) p

-- nothing is merged at first
pub merged_none : (left right : List (List ℕ)) → IsRising left → IsRising right
    → IsMerged left right [] left right
merged_none left right rises rises' = search rules

-- a path in one of two lists, after others
after_either : (done xs ys us vs : List (List ℕ)) (p : List ℕ)
    → (IsInEither xs ys p → IsInEither us vs p) → IsInEither (done ++ xs) (done ++ ys) p
    → IsInEither (done ++ us) (done ++ vs) p
after_either done xs ys us vs p moves there =
    let both : IsInEither xs ys p → IsInEither (done ++ us) (done ++ vs) p =
    λ h. ⊎_elim (λ u. inl (Contains-append_right _ _ p u))
    (λ v. inr (Contains-append_right _ _ p v)) (moves h) in
    let first : Contains done p → IsInEither (done ++ us) (done ++ vs) p = λ h.
    inl (Contains-append_left _ _ p h) in
    ⊎_elim
    (λ h. ⊎_elim first (λ x. both (inl x)) (Contains-append_cases _ _ p h))
    (λ h. ⊎_elim first (λ y. both (inr y)) (Contains-append_cases _ _ p h))
    there

-- one more path is merged
pub merged_more :
    (left right done more others : List (List ℕ)) (path : List ℕ)
    (after beside pushed : List (List ℕ)) →
    IsMerged left right done more others →
    IsLeastHead more others path after beside →
    pushed ≡ done ++ path ∷ [] →
    IsMerged left right pushed after beside
merged_more left right done more others path after beside pushed merged least is =
    let Is : List (List ℕ) → Type 0 = λ l. IsMerged left right l after beside in
    let Path : List (List ℕ) → List (List ℕ) = λ xs. done ++ path ∷ xs in
    let from : (xs : List (List ℕ)) → IsRising (path ∷ xs) → IsRising (Path xs) =
    λ xs rises. ⊎_elim
    (λ e. rising_join _ _ _ _ (subst (λ l. IsRising (done ++ l)) e merged.left_rises)
    rises)
    (λ e. rising_join _ _ _ _ (subst (λ l. IsRising (done ++ l)) e merged.right_rises)
    rises)
    least.head in
    let joined : (xs : List (List ℕ)) → (done ++ path ∷ []) ++ xs
    ≡ Path xs = λ xs. append_assoc done (path ∷ []) xs in
    let Either : List (List ℕ) → List (List ℕ) → List ℕ
    → Type 0 = λ us vs p. IsInEither left right p ↔ IsInEither us vs p in
    subst Is (sym is)
    (record {
      left_rises = subst IsRising (sym (joined after))
          (from after (least.left_rises (rising_back _ _ merged.left_rises)));
      right_rises = subst IsRising (sym (joined beside))
          (from beside (least.right_rises (rising_back _ _ merged.right_rises)));
      each = λ p. subst (λ us. Either us ((done ++ path ∷ []) ++ beside) p) (sym (joined after))
          (subst (λ vs. Either (Path after) vs p) (sym (joined beside)) (
            λ there. after_either _ _ _ _ _ p
                (least.each p).0 ((merged.each p).0 there),
            λ there. (merged.each p).1
                (after_either _ _ _ _ _ p (least.each p).1
                there),
          ));
    })

-- where nothing is left, the union is merged
pub merged_all : (left right done more others : List (List ℕ))
    → IsMerged left right done more others → more ≡ [] → others ≡ [] → IsUnion left right done
merged_all left right done more others merged none none' =
    let first : done ++ more ≡ done = ap (λ l. done ++ l) none ∙ append-nil done in
    let second : done ++ others ≡ done = ap (λ l. done ++ l) none' ∙ append-nil done in
    record {
      rising = subst IsRising first merged.left_rises;
      each = λ path. (
        λ there. (merged.each path).1 (inl (subst (λ l. Contains l path) (sym first) there)),
        λ there. ⊎_elim (λ h. subst (λ l. Contains l path) first h)
            (λ h. subst (λ l. Contains l path) second h) ((merged.each path).0 there),
      );
    }
