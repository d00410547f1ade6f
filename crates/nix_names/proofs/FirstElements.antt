-- The first element of a list that has a property: where it stands, and that there is one.
use Rattle.std.proofs.Common.{◌≡◌, ◌∙◌, ℕ, zero, suc, ◌+◌, ◌<◌, List, [], ◌∷◌, ◌++◌, take, append_assoc, sym, ap, subst, arith, Some, rules}
use Rattle.std.specs.Prelude.{All, Contains, slice_get}
use Rattle.std.specs.List.{range_with_len}
use Rattle.std.proofs.lemmas.List.Elements.{All-append, All-contains, All-head, All-tail}
use Rattle.nix_names.specs.Firsts.{IsFirst, IsFirstWhere}
use Rattle.nix_names.proofs.Lists.{Contains-middle, split_get}
use Rattle.std.proofs.lemmas.List.FromFn.{get_or-range_with_len, length-range_with_len}

module _ {X : Type 0} (Other Kind : X → Type 0) where
  -- the element at an index after others
  pub first_at : (list : List X) (n : ℕ) (x : X) → slice_get list n ≡ Some x
      → All Other (take n list) → Kind x → IsFirst Other Kind list x
  first_at list n x at others is = search (rules, split_get)

  -- the first element is a member
  pub first_contained : (list : List X) (x : X) → IsFirst Other Kind list x → Contains list x
  first_contained list x first = subst (λ l. Contains l x) (sym first.parts)
      (Contains-middle first.before first.after x)

  -- the first of a list is the first of a longer one, where none stands before the list
  pub first_within : (before middle after : List X) (x : X) → All Other before
      → IsFirst Other Kind middle x → IsFirst Other Kind (before ++ (middle ++ after)) x
  first_within before middle after x others first = record {
    before = before ++ first.before;
    after = first.after ++ after;
    parts =
        ap (λ (m : List X). before ++ (m ++ after)) first.parts
        ∙ ap (λ (m : List X). before ++ m) (append_assoc first.before (x ∷ first.after) after)
        ∙ sym (append_assoc before first.before ((x ∷ first.after) ++ after));
    others = All-append Other before first.before others first.others;
    is = first.is;
  }

  module _ (apart : (x : X) → Other x → Kind x → ⊥) where
    -- where all are others there is no first
    pub no_first : (list : List X) (x : X) → IsFirst Other Kind list x → All Other list → ⊥
    no_first list x first all = apart x
        (All-contains Other list x all (first_contained list x first)) first.is

    one_of_parts : (before other after later : List X) (x y : X) → before ++ x ∷ after ≡ other
        ++ y ∷ later → All Other before → All Other other → Kind x → Kind y → x ≡ y
    one_of_parts [] [] after later x y e all all' is is' = cc
    one_of_parts [] (z ∷ other) after later x y e all all' is is' = search (rules, All-head)
    one_of_parts (z ∷ before) [] after later x y e all all' is is' = search (rules, All-head)
    one_of_parts (z ∷ before) (w ∷ other) after later x y e all all' is is' =
        let tail : before ++ x ∷ after ≡ other ++ y ∷ later = cc in
        one_of_parts before other after later x y tail (All-tail Other z before all)
        (All-tail Other w other all') is is'

    -- there is one first element
    pub one_first : (list : List X) (x y : X) → IsFirst Other Kind list x
        → IsFirst Other Kind list y → x ≡ y
    one_first list x y first first' = search (rules, one_of_parts)

-- ---- numbers

-- the number at an index of numbers in order
number_at : (from count n : ℕ) → n < count → slice_get (range_with_len from count) n
    ≡ Some (from + n)
number_at from zero n below = absurd (omega arith)
number_at from (suc count) zero below = ap Some (omega arith)
number_at from (suc count) (suc n) below = number_at (from + 1) count n (omega arith)
    ∙ ap Some (omega arith)

-- what holds of the numbers before an index
all_numbers : (P : ℕ → Type 0) (from count n : ℕ)
    → ((m : ℕ) → from + m < from + n → P (from + m)) → All P (take n (range_with_len from count))
all_numbers P from zero zero each k d below = absurd (omega arith)
all_numbers P from zero (suc n) each k d below = absurd (omega arith)
all_numbers P from (suc count) zero each k d below = absurd (omega arith)
all_numbers P from (suc count) (suc n) each zero d below =
    subst P (omega arith) (each 0 (omega arith))
all_numbers P from (suc count) (suc n) each (suc k) d below =
    all_numbers P (from + 1) count n (λ m low. subst P (omega arith) (each (suc m) (omega arith))) k
    d (omega arith)

-- a number below a count for which something holds, and for none below it
pub first_number : (Holds : ℕ → Type 0) (count n : ℕ) → n < count → Holds n
    → ((m : ℕ) → m < n → Holds m → ⊥) → IsFirstWhere Holds (range_with_len 0 count) n
first_number Holds count n below holds none =
    first_at (λ m. Holds m → ⊥) Holds (range_with_len 0 count) n n
    (number_at 0 count n below ∙ ap Some (omega arith))
    (all_numbers (λ m. Holds m → ⊥) 0 count n (λ m low. subst (λ k. Holds k → ⊥) (omega arith)
    (none m (omega arith)))) holds

-- it is below the count
pub number_within : (Other Kind : ℕ → Type 0) (count n : ℕ)
    → IsFirst Other Kind (range_with_len 0 count) n → n < count
number_within Other Kind count n first =
    let (k, inside, is) = first_contained Other Kind (range_with_len 0 count) n first in
    let below : k < count = omega (arith, inside, length-range_with_len 0 count) in
    omega (arith, below, sym is ∙ get_or-range_with_len 0 count k n below)
