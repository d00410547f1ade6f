-- Steps and laws of counts.
use Rattle.std.proofs.Common.{◌≡◌, ℕ, ◌+◌, ◌-◌, ◌<◌, ◌≤◌, Bool, true, false, cond, min, max, List, [], ◌∷◌, ◌++◌, map, refl, ap, sym, ◌∙◌, subst, inl, inr, arith}
use Rattle.std.specs.Prelude.{Contains, count_by}
use Rattle.std.specs.List.Sorted.{IsPermutation}
use Rattle.std.proofs.lemmas.Bool.{cases_lt}
use Rattle.std.proofs.lemmas.List.{map-append, map_push}
use Rattle.std.proofs.lemmas.List.Elements.{All-contains, All-push, All-weaker, Contains-append_left, Contains-push}
use Rattle.std.proofs.lemmas.List.Sorted.{All-permutation, Contains-permutation, IsPermutation-cons, IsPermutation-map, sum_by-IsPermutation}
use Rattle.std.proofs.lemmas.List.Sums.{sum_by-cons, sum_by_push}
use Rattle.process_build.specs.Progress.{AllNeverFalls, Began, Ended, Heard, IsAllOf, IsGreatest, IsLeast, IsUnsettledOf, NumbersAddUp, OrderIsNoMatter, UnsettledNeverRises, begins, count_of, ends, ends_badly, ends_well, most, unsettled_at}
use Rattle.process_build.specs.declared.observe.counts.JobCounts.{JobCounts}

greatest_new : (numbers : List ℕ) (n m : ℕ) → IsGreatest numbers n → n < m
    → IsGreatest (numbers ++ m ∷ []) m
greatest_new numbers n m g less = (
  Contains-push numbers m,
  All-push (λ k. k ≤ m) numbers m
      (All-weaker (λ k. k ≤ n) (λ k. k ≤ m) (λ k h. omega arith) numbers g.1) (omega arith),
)

greatest_old : (numbers : List ℕ) (n m : ℕ) → IsGreatest numbers n → m ≤ n
    → IsGreatest (numbers ++ m ∷ []) n
greatest_old numbers n m g le =
    (Contains-append_left numbers (m ∷ []) n g.0, All-push (λ k. k ≤ n) numbers m g.1 le)

greatest_push : (numbers : List ℕ) (n m : ℕ) → IsGreatest numbers n
    → IsGreatest (numbers ++ m ∷ []) (max n m)
greatest_push numbers n m g =
    let P : ℕ → Type 0 = λ k. IsGreatest (numbers ++ m ∷ []) k in
    elim (cases_lt n m) [
      | inl less ↦ let e : m ≡ max n m = omega arith in subst P e (greatest_new numbers n m g less)
      | inr le ↦ let e : n ≡ max n m = omega arith in subst P e (greatest_old numbers n m g le)
    ]

least_new : (numbers : List ℕ) (n m : ℕ) → IsLeast numbers n → m < n
    → IsLeast (numbers ++ m ∷ []) m
least_new numbers n m g less = (
  Contains-push numbers m,
  All-push (λ k. m ≤ k) numbers m
      (All-weaker (λ k. n ≤ k) (λ k. m ≤ k) (λ k h. omega arith) numbers g.1) (omega arith),
)

least_old : (numbers : List ℕ) (n m : ℕ) → IsLeast numbers n → n ≤ m
    → IsLeast (numbers ++ m ∷ []) n
least_old numbers n m g le =
    (Contains-append_left numbers (m ∷ []) n g.0, All-push (λ k. n ≤ k) numbers m g.1 le)

least_push : (numbers : List ℕ) (n m : ℕ) → IsLeast numbers n
    → IsLeast (numbers ++ m ∷ []) (min n m)
least_push numbers n m g =
    let P : ℕ → Type 0 = λ k. IsLeast (numbers ++ m ∷ []) k in
    elim (cases_lt m n) [
      | inl less ↦ let e : m ≡ min n m = omega arith in subst P e (least_new numbers n m g less)
      | inr le ↦ let e : n ≡ min n m = omega arith in subst P e (least_old numbers n m g le)
    ]

pub all_push : (calls : List Heard) (call : Heard) (n r : ℕ) → IsAllOf calls n
    → r ≡ max n (unsettled_at call) → IsAllOf (calls ++ call ∷ []) r
all_push calls call n r g e =
    let P : ℕ → Type 0 = λ k. IsAllOf (calls ++ call ∷ []) k in
    subst P (sym e) (rw (map_push unsettled_at calls call)
    (greatest_push (0 ∷ map unsettled_at calls) n (unsettled_at call) g))

pub unsettled_push : (calls : List Heard) (call : Heard) (n r : ℕ) → IsUnsettledOf calls n
    → r ≡ min n (unsettled_at call) → IsUnsettledOf (calls ++ call ∷ []) r
unsettled_push calls call n r g e =
    let P : ℕ → Type 0 = λ k. IsUnsettledOf (calls ++ call ∷ []) k in
    subst P (sym e) (rw (map_push unsettled_at calls call)
    (least_push (most ∷ map unsettled_at calls) n (unsettled_at call) g))

-- a count with such a call more, and with another
pub count_more : (is_such : Heard → Bool) (calls : List Heard) (call : Heard) (n r : ℕ)
    → is_such call ≡ true → n ≡ count_of is_such calls → r ≡ min (n + 1) most
    → r ≡ count_of is_such (calls ++ call ∷ [])
count_more is_such calls call n r hit is e =
    let s : count_by is_such (calls ++ call ∷ []) ≡ count_by is_such calls + cond (is_such call) 1 0
    = sum_by_push (λ x. cond (is_such x) 1 0) calls call in
    let t : cond {A = ℕ} (is_such call) 1 0 ≡ 1 = ap (λ b. cond b 1 0) hit in
    omega arith

pub count_same : (is_such : Heard → Bool) (calls : List Heard) (call : Heard) (n r : ℕ)
    → is_such call ≡ false → n ≡ count_of is_such calls → r ≡ n
    → r ≡ count_of is_such (calls ++ call ∷ [])
count_same is_such calls call n r other is e =
    let s : count_by is_such (calls ++ call ∷ []) ≡ count_by is_such calls + cond (is_such call) 1 0
    = sum_by_push (λ x. cond (is_such x) 1 0) calls call in
    let t : cond {A = ℕ} (is_such call) 1 0 ≡ 0 = ap (λ b. cond b 1 0) other in
    omega arith

split_sum : (e w f a b c l m n : ℕ) → e ≡ a + l → w ≡ b + m → f ≡ c + n → a ≡ b + c → l ≡ m + n
    → e ≡ w + f
split_sum e w f a b c l m n is_e is_w is_f now before = omega arith

split_one : (call : Heard)
    → cond {A = ℕ} (ends call) 1 0 ≡ cond (ends_well call) 1 0 + cond (ends_badly call) 1 0
split_one (Began unsettled) = refl
split_one (Ended true unsettled) = refl
split_one (Ended false unsettled) = refl

-- the calls that end are those that end well and those that end otherwise
pub ends_split : (calls : List Heard)
    → count_by ends calls ≡ count_by ends_well calls + count_by ends_badly calls
ends_split [] = refl
ends_split (call ∷ calls) =
    split_sum (count_by ends (call ∷ calls)) (count_by ends_well (call ∷ calls))
    (count_by ends_badly (call ∷ calls)) (cond (ends call) 1 0) (cond (ends_well call) 1 0)
    (cond (ends_badly call) 1 0) (count_by ends calls) (count_by ends_well calls)
    (count_by ends_badly calls) (sum_by-cons (λ x. cond (ends x) 1 0) call calls)
    (sum_by-cons (λ x. cond (ends_well x) 1 0) call calls)
    (sum_by-cons (λ x. cond (ends_badly x) 1 0) call calls) (split_one call) (ends_split calls)

pub running_is : (calls : List Heard) (begun built failed : ℕ) → begun ≡ count_of begins calls
    → built ≡ count_of ends_well calls → failed ≡ count_of ends_badly calls
    → begun - built - failed ≡ count_of begins calls - count_by ends calls
running_is calls begun built failed is_begun is_built is_failed =
    let e = ends_split calls in omega arith

pub numbers_add_up : NumbersAddUp
numbers_add_up calls numbers are fits ended =
    let e = ends_split calls in
    let r = are.running in
    let w = are.built in
    let f = are.failed in
    omega arith

pub all_never_falls : AllNeverFalls
all_never_falls calls more before after is later =
    let found : Contains (0 ∷ map unsettled_at (calls ++ more)) before.all =
    rw (map-append unsettled_at calls more)
    (Contains-append_left (0 ∷ map unsettled_at calls) (map unsettled_at more) before.all
    is.all.0) in
    All-contains (λ m. m ≤ after.all) (0 ∷ map unsettled_at (calls ++ more)) before.all later.all.1
    found

pub unsettled_never_rises : UnsettledNeverRises
unsettled_never_rises calls more before after is later =
    let found : Contains (most ∷ map unsettled_at (calls ++ more)) before.unsettled =
    rw (map-append unsettled_at calls more)
    (Contains-append_left (most ∷ map unsettled_at calls) (map unsettled_at more)
    before.unsettled is.unsettled.0) in
    All-contains (λ m. after.unsettled ≤ m) (most ∷ map unsettled_at (calls ++ more))
    before.unsettled later.unsettled.1 found

same_count : (is_such : Heard → Bool) (calls others : List Heard) → IsPermutation calls others
    → count_of is_such calls ≡ count_of is_such others
same_count is_such calls others p =
    ap (λ n. min n most) (sym (sum_by-IsPermutation (λ x. cond (is_such x) 1 0) calls others p))

same_greatest : (ms ns : List ℕ) (m n : ℕ) → IsPermutation ms ns → IsGreatest ms m
    → IsGreatest ns n → m ≡ n
same_greatest ms ns m n p g h =
    let above : m ≤ n =
    All-contains (λ k. k ≤ n) ns m h.1 (Contains-permutation ms ns m p g.0) in
    let below : n ≤ m =
    All-contains (λ k. k ≤ m) ns n (All-permutation (λ k. k ≤ m) ms ns p g.1) h.0 in
    omega arith

same_least : (ms ns : List ℕ) (m n : ℕ) → IsPermutation ms ns → IsLeast ms m → IsLeast ns n
    → m ≡ n
same_least ms ns m n p g h =
    let below : n ≤ m =
    All-contains (λ k. n ≤ k) ns m h.1 (Contains-permutation ms ns m p g.0) in
    let above : m ≤ n =
    All-contains (λ k. m ≤ k) ns n (All-permutation (λ k. m ≤ k) ms ns p g.1) h.0 in
    omega arith

same_counts : (l r : JobCounts) → l.begun ≡ r.begun → l.built ≡ r.built → l.failed ≡ r.failed
    → l.all ≡ r.all → l.unsettled ≡ r.unsettled → l ≡ r
same_counts l r begun built failed all unsettled =
    ap (λ (n : ℕ). record l { begun = n }) begun
    ∙ ap (λ (n : ℕ). record l { begun = r.begun; built = n }) built
    ∙ ap (λ (n : ℕ). record l { begun = r.begun; built = r.built; failed = n }) failed
    ∙ ap (λ (n : ℕ). record r { all = n; unsettled = l.unsettled }) all
    ∙ ap (λ (n : ℕ). record r { unsettled = n }) unsettled

pub order_is_no_matter : OrderIsNoMatter
order_is_no_matter calls others left right p l r =
    let moved : IsPermutation (map unsettled_at calls) (map unsettled_at others) =
    IsPermutation-map unsettled_at calls others p in
    let begun : left.begun ≡ right.begun =
    l.begun ∙ same_count begins calls others p ∙ sym r.begun in
    let built : left.built ≡ right.built =
    l.built ∙ same_count ends_well calls others p ∙ sym r.built in
    let failed : left.failed ≡ right.failed =
    l.failed ∙ same_count ends_badly calls others p ∙ sym r.failed in
    let all : left.all ≡ right.all =
    same_greatest (0 ∷ map unsettled_at calls) (0 ∷ map unsettled_at others) left.all right.all
    (IsPermutation-cons 0 _ _ moved) l.all r.all in
    let unsettled : left.unsettled ≡ right.unsettled =
    same_least (most ∷ map unsettled_at calls) (most ∷ map unsettled_at others) left.unsettled
    right.unsettled (IsPermutation-cons most _ _ moved) l.unsettled r.unsettled in
    same_counts left right begun built failed all unsettled
