-- Lists of paths of which no two are the same, and the parts of a list.
use Rattle.std.proofs.Common.{◌≡◌, ◌∙◌, ℕ, false, List, [], ◌∷◌, ◌++◌, length, get_or, refl, sym, subst, arith, nat_eq, length-append, rules}
use Rattle.std.specs.Prelude.{All, Contains}
use Rattle.std.specs.Cmp.Lexicographic.{pointwise, nat_list_eq_equiv}
use Rattle.std.specs.List.{AllByRecursion, IsDistinct}
use Rattle.std.proofs.lemmas.Bool.{false_from_ne_true, false≢true}
use Rattle.std.proofs.lemmas.List.{drop_at, get_or_append_left, get_or_at}
use Rattle.std.proofs.lemmas.List.Elements.{All-drop, All-head, All-tail, All-weaker, Contains-append_right}
use Rattle.std.proofs.lemmas.Map.Keys.{apart_from_distinct, IsDistinct-cons, IsDistinct-from_apart, IsDistinct-head, IsDistinct-tail}
use Rattle.nix_names.proofs.RisingLists.{equal_from_eq}
use Rattle.valid_table.specs.private.Entering.{AreUnknown, IsNotKnown}

-- the end of a list whose elements have a property
pub All-right : {X : Type 0} (P : X → Type 0) (xs ys : List X) → All P (xs ++ ys) → All P ys
All-right P xs ys all = subst (All P) (drop_at xs ys (length xs) refl) (All-drop P _ _ all)

-- a path of a list without repetition is not among those before it
pub once_apart :
    (before after : List (List ℕ)) (path : List ℕ) →
    IsDistinct (pointwise nat_eq) (before ++ path ∷ after) →
    Contains before path →
    ⊥
once_apart before after path once (k, lt, is) =
    let all = before ++ path ∷ after in
    let at_k : get_or all k path ≡ path = get_or_append_left before (path ∷ after) path k lt ∙ is in
    let at_n : get_or all (length before) path
    ≡ path = get_or_at before path after path (length before) refl in
    let apart = apart_from_distinct (pointwise nat_eq) _ k (length before) path once lt
    (omega (arith, length-append before (path ∷ after))) in
    let same = nat_list_eq_equiv.refl path in
    false≢true (sym apart ∙ rw (at_k, at_n) same)

-- the prefix of a list without repetition has none
pub once_prefix : (before after : List (List ℕ)) → IsDistinct (pointwise nat_eq) (before ++ after)
    → IsDistinct (pointwise nat_eq) before
once_prefix before after once =
    IsDistinct-from_apart (pointwise nat_eq) _
    (λ i j d lt below.
    let at_i = get_or_append_left before after d i (omega arith) in
    let at_j = get_or_append_left before after d j below in
    rw (← at_i, ← at_j)
    (apart_from_distinct (pointwise nat_eq) _ i j d once lt
    (omega (arith, length-append before after))))

-- a known path differs from each unknown one
apart_from_unknown : (x : List ℕ) (xs ys : List (List ℕ)) → AreUnknown (x ∷ xs) ys
    → AllByRecursion (λ y. pointwise nat_eq x y ≡ false) ys
apart_from_unknown x xs [] new = tt
apart_from_unknown x xs (y ∷ ys) new =
    search (
      rules,
      false_from_ne_true,
      All-head,
      equal_from_eq,
      All-tail,
      apart_from_unknown x xs ys (All-tail (IsNotKnown (x ∷ xs)) y _ new),
    )

-- a path that differs from each of two lists does from both, one after the other
apart_from_both : (x : List ℕ) (xs ys : List (List ℕ))
    → AllByRecursion (λ y. pointwise nat_eq x y ≡ false) xs
    → AllByRecursion (λ y. pointwise nat_eq x y ≡ false) ys
    → AllByRecursion (λ y. pointwise nat_eq x y ≡ false) (xs ++ ys)
apart_from_both x [] ys first second = second
apart_from_both x (z ∷ zs) ys first second = (first.0, apart_from_both x zs _ first.1 second)

-- known paths that differ, and unknown ones that do, differ together
pub distinct_append :
    (known paths : List (List ℕ)) →
    IsDistinct (pointwise nat_eq) known →
    IsDistinct (pointwise nat_eq) paths →
    AreUnknown known paths →
    IsDistinct (pointwise nat_eq) (known ++ paths)
distinct_append [] paths first second new = second
distinct_append (x ∷ xs) paths first second new =
    let Eq = pointwise nat_eq in
    IsDistinct-cons Eq x _
    (apart_from_both x _ _ (IsDistinct-head Eq x _ first)
    (apart_from_unknown x _ _ new))
    (distinct_append _ _ (IsDistinct-tail Eq x _ first) second
    (All-weaker (IsNotKnown (x ∷ xs)) (IsNotKnown xs)
    (λ y unknown there. unknown (Contains-append_right (x ∷ []) _ y there)) _ new))
