-- Lists of texts that rise strictly: their parts, what a sort makes, and that their members tell
-- them.
use Rattle.std.proofs.Common.{◌≡◌, ◌≢◌, ◌↔◌, ◌⊎◌, inl, inr, ℕ, ◌+◌, Bool, true, false, List, [], ◌∷◌, ◌++◌, take, drop, get_or, nat_eq, refl, sym, ap, subst, ◌∙◌, ⊎_elim, IsTrue, arith, rules}
use Rattle.std.specs.Prelude.{Contains}
use Rattle.std.specs.BTreeSet.{BTreeSet}
use Rattle.std.specs.Cmp.Lexicographic.{bytes_decides, nat_list_eq_equiv, pointwise, slice_cmp, texts_ties}
use Rattle.std.specs.List.{AllByRecursion, IsDistinct, dedup}
use Rattle.std.specs.List.Sorted.{IsPermutation, IsSorted, IsStrictlySortedBy}
use Rattle.std.specs.Ordering.{is_eq, is_lt, nat_cmp, ordering_reverse}
use Rattle.std.specs.declared.cmp.Ordering.{Ordering}
use Rattle.std.specs.declared.cmp.Ordering.TheVariants.{Less, Equal, Greater}
use Rattle.std.proofs.lemmas.Bool.{false≢true}
use Rattle.std.proofs.lemmas.Cmp.{nat_list_cmp_total, tied_itself}
use Rattle.std.proofs.lemmas.List.{take-append-drop}
use Rattle.std.proofs.lemmas.List.Elements.{Contains-append_right}
use Rattle.std.proofs.lemmas.List.Kept.{Contains-dedup, Contains-from_dedup, IsStrictlySortedBy-dedup}
use Rattle.std.proofs.lemmas.List.Sorted.{Contains-permutation, IsPermutation-sym}
use Rattle.std.proofs.lemmas.Map.Keys.{IsDistinct-from_apart, Less-from_sorted, apart_from_distinct, sorted_from_all_adjacent}
use Rattle.std.proofs.lemmas.Map.Lookups.{btree_set_from_contains, exact_bytes}
use Rattle.std.proofs.lemmas.Map.Views.{btree_set_contains_iff}
use Rattle.nix_names.specs.Rising.{IsRising}
use Rattle.nix_names.proofs.Lists.{Contains-cons_cases, Contains-first, Contains-later, Contains-nothing}

-- ---- the order of texts by bytes

-- one text is less than another
abbrev pub IsBelow : List ℕ → List ℕ → Type 0
IsBelow x y = slice_cmp nat_cmp x y ≡ Less

pub below_trans : (x y z : List ℕ) → IsBelow x y → IsBelow y z → IsBelow x z
below_trans = nat_list_cmp_total.trans

pub not_below_itself : (x : List ℕ) → IsBelow x x → ⊥
not_below_itself x below = search (rules, tied_itself, nat_list_cmp_total)

-- what `==` says
pub equal_from_eq : (x y : List ℕ) → pointwise nat_eq x y ≡ true → x ≡ y
equal_from_eq x y = (bytes_decides x y).0

pub unequal_from_eq : (x y : List ℕ) → pointwise nat_eq x y ≡ false → x ≢ y
unequal_from_eq x y differ same = search (rules, false≢true)

-- what `<` says
pub below_from_lt : (x y : List ℕ) → is_lt (slice_cmp nat_cmp x y) ≡ true → IsBelow x y
below_from_lt x y h = by (slice_cmp nat_cmp x y) h
  where
    by : (o : Ordering) → is_lt o ≡ true → o ≡ Less
    by Less e = refl
    by Equal e = cc
    by Greater e = cc

-- texts that `==` tells apart are below one another
pub apart_by_order : (x y : List ℕ) → pointwise nat_eq x y ≡ false → IsBelow x y ⊎ IsBelow y x
apart_by_order x y differ = by (slice_cmp nat_cmp x y) refl
  where
    by : (o : Ordering) → slice_cmp nat_cmp x y ≡ o → IsBelow x y ⊎ IsBelow y x
    by Less e = inl e
    by Equal e = absurd (false≢true (sym differ ∙ texts_ties x y ∙ ap is_eq e))
    by Greater e = inr (nat_list_cmp_total.antisymm y x ∙ ap ordering_reverse e)

-- of two texts that differ, and of which the second is not less, the first is
pub below_from_order : (x y : List ℕ) → is_lt (slice_cmp nat_cmp y x) ≡ false → pointwise nat_eq x y
    ≡ false → IsBelow x y
below_from_order x y ordered differ = search (rules, false≢true, apart_by_order)

-- ---- parts of a rising list

-- a rising list without its first text rises
pub rising_later : (x : List ℕ) (xs : List (List ℕ)) → IsRising (x ∷ xs) → IsRising xs
rising_later x [] rises = tt
rising_later x (y ∷ ys) rises = rises.1

-- the first text of a rising list is below each later one
pub first_below : (x : List ℕ) (xs : List (List ℕ)) (y : List ℕ) → IsRising (x ∷ xs) → Contains xs y
    → IsBelow x y
first_below x [] y rises has = absurd (Contains-nothing y has)
first_below x (z ∷ zs) y rises has =
    ⊎_elim
    (λ is. subst (IsBelow x) is rises.0)
    (λ later. below_trans x z y rises.0 (first_below z zs y rises.1 later))
    (Contains-cons_cases z zs y has)

-- each text of a rising list is above those before it
pub earlier_below : (before after : List (List ℕ)) (y x : List ℕ) → IsRising (before ++ y ∷ after)
    → Contains before x → IsBelow x y
earlier_below [] after y x rises has = absurd (Contains-nothing x has)
earlier_below (z ∷ zs) after y x rises has =
    ⊎_elim
    (λ is. subst (λ w. IsBelow w y) is
    (first_below z (zs ++ y ∷ after) y rises
    (Contains-append_right zs (y ∷ after) y (Contains-first y after))))
    (λ later. earlier_below zs after y x (rising_later z (zs ++ y ∷ after) rises) later)
    (Contains-cons_cases z zs x has)

pub rising_front : (xs ys : List (List ℕ)) → IsRising (xs ++ ys) → IsRising xs
rising_front [] ys rises = tt
rising_front (x ∷ []) ys rises = tt
rising_front (x ∷ y ∷ xs) ys rises = (rises.0, rising_front (y ∷ xs) ys rises.1)

pub rising_back : (xs ys : List (List ℕ)) → IsRising (xs ++ ys) → IsRising ys
rising_back [] ys rises = rises
rising_back (x ∷ xs) ys rises = rising_back xs ys (rising_later x (xs ++ ys) rises)

pub rising_take : (xs : List (List ℕ)) (i : ℕ) → IsRising xs → IsRising (take i xs)
rising_take xs i rises = rising_front (take i xs) (drop i xs)
    (subst IsRising (sym (take-append-drop i xs)) rises)

-- one text more, above all
pub rising_push : (xs : List (List ℕ)) (y : List ℕ) → IsRising xs
    → ((x : List ℕ) → Contains xs x → IsBelow x y) → IsRising (xs ++ y ∷ [])
rising_push [] y rises below = tt
rising_push (x ∷ []) y rises below = (below x (Contains-first x []), tt)
rising_push (x ∷ z ∷ zs) y rises below =
    (rises.0, rising_push (z ∷ zs) y rises.1 (λ w has. below w (Contains-later x (z ∷ zs) w has)))

-- ---- rising and sorted

-- what is above a text is above a lesser one
above_lesser : (x y : List ℕ) (texts : List (List ℕ)) → IsBelow x y
    → AllByRecursion (IsBelow y) texts → AllByRecursion (IsBelow x) texts
above_lesser x y [] less above = tt
above_lesser x y (z ∷ texts) less above = (
  below_trans x y z less above.0,
  above_lesser x y texts less above.1,
)

-- texts that rise are each below all later ones
pub sorted_from_rising : (texts : List (List ℕ)) → IsRising texts
    → IsStrictlySortedBy (slice_cmp nat_cmp) texts
unfolding IsStrictlySortedBy
sorted_from_rising [] rises = tt
sorted_from_rising (x ∷ []) rises = (tt, tt)
sorted_from_rising (x ∷ y ∷ texts) rises =
    let rest = sorted_from_rising (y ∷ texts) rises.1 in
    ((rises.0, above_lesser x y texts rises.0 rest.0), rest)

-- texts that are each below all later ones rise
pub rising_from_sorted : (texts : List (List ℕ)) → IsStrictlySortedBy (slice_cmp nat_cmp) texts
    → IsRising texts
unfolding IsStrictlySortedBy
rising_from_sorted [] sorted = tt
rising_from_sorted (x ∷ []) sorted = tt
rising_from_sorted (x ∷ y ∷ texts) sorted = (sorted.0.0, rising_from_sorted (y ∷ texts) sorted.1)

-- no two texts of a rising list are the same
pub distinct_from_rising : (texts : List (List ℕ)) → IsRising texts
    → IsDistinct (pointwise nat_eq) texts
distinct_from_rising texts rises =
    IsDistinct-from_apart (pointwise nat_eq) texts
    (λ i j d before within.
    let less : IsBelow (get_or texts i d) (get_or texts j d) =
    Less-from_sorted (slice_cmp nat_cmp) texts i j d (sorted_from_rising texts rises) before
    within in
    texts_ties (get_or texts i d) (get_or texts j d) ∙ ap is_eq less)

-- distinct texts in order rise
pub rising_sorted : (texts : List (List ℕ)) → IsSorted (slice_cmp nat_cmp) texts
    → IsDistinct (pointwise nat_eq) texts → IsRising texts
rising_sorted texts sorted distinct =
    rising_from_sorted texts (sorted_from_all_adjacent nat_list_cmp_total texts []
    (λ k below. below_from_order (get_or texts k []) (get_or texts (k + 1) [])
    (sorted k [] (omega arith) below)
    (apart_from_distinct (pointwise nat_eq) texts k (k + 1) [] distinct (omega arith) below)))

-- what `dedup` leaves of texts in order rises
pub rising_dedup : (sorted : List (List ℕ)) → IsSorted (slice_cmp nat_cmp) sorted
    → IsRising (dedup (pointwise nat_eq) sorted)
rising_dedup sorted ordered =
    rising_from_sorted (dedup (pointwise nat_eq) sorted)
    (IsStrictlySortedBy-dedup nat_list_cmp_total texts_ties sorted ordered)

-- a sort and `dedup` keep just the members
pub members_of_dedup : (texts sorted : List (List ℕ)) → IsPermutation texts sorted → (text : List ℕ)
    → Contains (dedup (pointwise nat_eq) sorted) text ↔ Contains texts text
members_of_dedup texts sorted moved text = (
  λ has. Contains-permutation sorted texts text (IsPermutation-sym texts sorted moved)
      (Contains-from_dedup (pointwise nat_eq) sorted text has),
  λ has. Contains-dedup nat_list_eq_equiv equal_from_eq sorted text
      (Contains-permutation texts sorted text moved has),
)

-- ---- members tell a rising list

same_answer : (a b : Bool) → (IsTrue a → IsTrue b) → (IsTrue b → IsTrue a) → a ≡ b
same_answer true true there back = refl
same_answer true false there back = sym (there refl)
same_answer false true there back = back refl
same_answer false false there back = refl

-- two rising lists with the same members are equal
pub rising_same : (xs ys : List (List ℕ)) → IsRising xs → IsRising ys
    → ((text : List ℕ) → Contains xs text ↔ Contains ys text) → xs ≡ ys
rising_same xs ys rises rises' same =
    let s : BTreeSet (List ℕ) = record { keys = xs } in
    let t : BTreeSet (List ℕ) = record { keys = ys } in
    let in_xs = btree_set_contains_iff nat_list_cmp_total exact_bytes s in
    let in_ys = btree_set_contains_iff nat_list_cmp_total exact_bytes t in
    btree_set_from_contains nat_list_cmp_total s t (sorted_from_rising xs rises)
    (sorted_from_rising ys rises')
    (λ text. same_answer _ _ (λ has. (in_ys text).1 ((same text).0 ((in_xs text).0 has)))
    (λ has. (in_xs text).1 ((same text).1 ((in_ys text).0 has))))
    exact_bytes
