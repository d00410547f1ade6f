-- How often derivations are waited for.
use Rattle.std.proofs.Common.{◌≡◌, ⊎_elim, ℕ, zero, suc, ◌+◌, ◌<◌, ◌≤◌, eqb, List, [], ◌∷◌, ◌++◌, length, get_or, ap, arith, add-one, drop, take, Option, Some, None, rules}
use Rattle.std.specs.Prelude.{MatchOption}
use Rattle.std.proofs.Math.ListN.{set}
use Rattle.std.proofs.lemmas.Bool.{cases_eq, cases_lt, eq-eqb, ne_eqb}
use Rattle.std.proofs.lemmas.List.{drop_more, get_or-set_other, get_or-set_same}
use Rattle.nix_names.proofs.Lists.{taken_more}
use Rattle.run_states.specs.StateTables.{listed}
use Rattle.run_states.specs.UserSpans.{often, pairs, uses}

pub often_both : (n : ℕ) (xs ys : List ℕ) → often n (xs ++ ys) ≡ often n xs + often n ys
often_both n [] ys = omega arith
often_both n (x ∷ xs) ys = omega (arith, often_both n xs ys)

-- a number alone
pub often_one : (n : ℕ) → often n (n ∷ []) ≡ 1
often_one n = search (rules, eqb, eq-eqb)

pub often_none : (n i : ℕ) → (n ≡ i → ⊥) → often n (i ∷ []) ≡ 0
often_none n i differ = search (rules, eqb, ne_eqb)

-- the first of what is left and the others
pub often_left : (n : ℕ) (xs : List ℕ) (k x : ℕ) → k < length xs
    → often n (drop k xs) ≡ often n (get_or xs k x ∷ []) + often n (drop (k + 1) xs)
often_left n xs k x low = search (rules, drop_more, often_both)

-- the counts after one more of this number
pub counted_one : (counts : List ℕ) (i n : ℕ) → i < length counts
    → get_or (set counts i (get_or counts i 0 + 1)) n 0 ≡ get_or counts n 0 + often n (i ∷ [])
counted_one counts i n within =
    search (rules, set, get_or-set_same, often_one, get_or-set_other, often_none, cases_eq)

-- the counts after one more input
pub counted : (inputs : List ℕ) (k i : ℕ) (before counts : List ℕ) → k < length inputs
    → i ≡ get_or inputs k i → i < length counts
    → ((n : ℕ) → n < length before → get_or counts n 0
    ≡ get_or before n 0 + often n (take k inputs))
    → (n : ℕ) → n < length before → get_or (set counts i (get_or counts i 0 + 1)) n 0
    ≡ get_or before n 0 + often n (take (k + 1) inputs)
counted inputs k i before counts low is within each n less =
    omega (
      arith,
      counted_one _ i n within,
      each n less,
      ap (often n) (taken_more _ k i low is),
      often_both n (take k inputs) (i ∷ []),
    )

-- more users, no fewer uses
pub uses_grow : (inputs : ℕ → List ℕ) (n few count : ℕ) → few ≤ count
    → uses inputs few n ≤ uses inputs count n
uses_grow inputs n few zero less = search rules
uses_grow inputs n few (suc count) less = ⊎_elim
    (λ same. omega (arith, ap (λ c. uses inputs c n) same))
    (λ differ. omega (
      arith,
      uses_grow inputs n few count (⊎_elim (λ below. omega (arith, below))
          (λ above. absurd (differ (omega (arith, above, less)))) (cases_lt few (suc count))),
    ))
    (cases_eq few (suc count))

-- more users, no fewer pairs
pub pairs_grow : (inputs : ℕ → List ℕ) (few count : ℕ) → few ≤ count
    → pairs inputs few ≤ pairs inputs count
pairs_grow inputs few zero less = search rules
pairs_grow inputs few (suc count) less = ⊎_elim
    (λ same. omega (arith, ap (pairs inputs) same))
    (λ differ. omega (
      arith,
      pairs_grow inputs few count (⊎_elim (λ below. omega (arith, below))
          (λ above. absurd (differ (omega (arith, above, less)))) (cases_lt few (suc count))),
    ))
    (cases_eq few (suc count))

-- the pairs with one user more
pub pairs_next : (inputs : ℕ → List ℕ) (user : ℕ) → pairs inputs (user + 1)
    ≡ pairs inputs user + length (inputs user)
pairs_next inputs user = ap (pairs inputs) (add-one user)

-- the uses with one user more
pub uses_next : (inputs : ℕ → List ℕ) (user n : ℕ) → uses inputs (user + 1) n
    ≡ uses inputs user n + often n (inputs user)
uses_next inputs user n = ap (λ c. uses inputs c n) (add-one user)

-- what a twin is listed as
pub is_listed : (twin : Option ℕ) (xs : List ℕ)
    → MatchOption twin (xs ≡ []) (λ x. xs ≡ x ∷ []) → xs ≡ listed twin
is_listed None xs is = is
is_listed (Some x) xs is = is
