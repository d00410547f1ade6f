-- Tests of a list's elements: one that passes, and all that do.
use Rattle.std.proofs.Common.{◌≡◌, ◌∙◌, ⊎_elim, ℕ, ◌<◌, ◌+◌, zero, suc, Bool, true, false, List, [], ◌∷◌, ◌++◌, refl, sym, ap, subst, arith, rules}
use Rattle.std.specs.Prelude.{All, Contains}
use Rattle.std.specs.List.{list_all, list_any, range_with_len}
use Rattle.std.proofs.lemmas.Bool.{and_from, and_parts, eq-eqb, eqb-true, false≢true, or_cases}
use Rattle.std.proofs.lemmas.List.Folds.{list_any_at}
use Rattle.std.proofs.lemmas.List.FromFn.{get_or-range_with_len, length-range_with_len}
use Rattle.nix_names.proofs.Lists.{Contains-cons_cases, Contains-first, Contains-later, Contains-nothing}
use Rattle.run_states.specs.Runs.{is_one_of}

-- ---- some element, and all

pub any_passes : {X : Type 0} (p : X → Bool) (xs : List X) (x : X) → Contains xs x → p x ≡ true
    → list_any p xs ≡ true
any_passes p xs x (k, low, at) is = list_any_at p _ k x low (ap p at ∙ is)

pub one_passes : {X : Type 0} (p : X → Bool) (xs : List X) → list_any p xs ≡ true → (x : X)
    × Contains xs x × (p x ≡ true)
one_passes p [] is = absurd (false≢true is)
one_passes p (x ∷ xs) is =
    ⊎_elim (λ here. (x, Contains-first x _, here))
    (λ later. let found = one_passes p xs later in (
      found.0,
      Contains-later x _ _ found.1,
      found.2,
    ))
    (or_cases (p x) (list_any p xs) is)

pub all_pass : {X : Type 0} (p : X → Bool) (xs : List X)
    → ((x : X) → Contains xs x → p x ≡ true) → list_all p xs ≡ true
all_pass p [] each = refl
all_pass p (x ∷ xs) each =
    and_from _ _ (each x (Contains-first x _))
    (all_pass p xs (λ y has. each y (Contains-later x xs y has)))

pub list_all_has : {X : Type 0} (p : X → Bool) (xs : List X) (x : X) → list_all p xs ≡ true
    → Contains xs x → p x ≡ true
list_all_has p [] x is has = absurd (Contains-nothing x has)
list_all_has p (y ∷ ys) x is has =
    let parts = and_parts (p y) (list_all p ys) is in
    ⊎_elim (λ same. subst (λ z. p z ≡ true) same parts.0)
    (λ later. list_all_has p ys x parts.1 later) (Contains-cons_cases y ys x has)

-- two tests that follow from each other are one
pub same_test : (a b : Bool) → (a ≡ true → b ≡ true) → (b ≡ true → a ≡ true) → a ≡ b
same_test true b there back = sym (there refl)
same_test false true there back = back refl
same_test false false there back = refl

-- ---- numbers

-- a number that is found among some is one of them
pub is_among : (numbers : List ℕ) (n : ℕ) → is_one_of numbers n ≡ true → Contains numbers n
is_among numbers n is = search (rules, one_passes, eqb-true)

pub is_found : (numbers : List ℕ) (n : ℕ) → Contains numbers n → is_one_of numbers n ≡ true
is_found numbers n has = search (rules, any_passes, eq-eqb)

-- a number below n is among the first n numbers
pub in_range : (n k : ℕ) → k < n → Contains (range_with_len 0 n) k
in_range n k low = (
  k,
  omega (arith, low, length-range_with_len 0 n),
  get_or-range_with_len 0 n k k low ∙ omega arith,
)

pub range_below : (n : ℕ) → All (λ k. k < n) (range_with_len 0 n)
range_below n = search (rules, length-range_with_len, get_or-range_with_len)

range_more_from : (a n : ℕ) → range_with_len a (suc n) ≡ range_with_len a n ++ (a + n) ∷ []
range_more_from a zero = ap (λ k. k ∷ []) (omega arith)
range_more_from a (suc n) = search (rules, range_more_from (a + 1) n)

-- one number more
pub range_more : (n : ℕ) → range_with_len 0 (n + 1) ≡ range_with_len 0 n ++ n ∷ []
range_more n =
    let next : n + 1 ≡ suc n = omega arith in
    ap (range_with_len 0) next ∙ range_more_from 0 n
    ∙ ap (λ k. range_with_len 0 n ++ k ∷ []) (omega arith)
