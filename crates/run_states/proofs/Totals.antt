-- Sums over the numbers below a count.
use Rattle.std.proofs.Common.{◌≡◌, ℕ, zero, suc, ◌<◌, List, [], ◌∷◌, length, get_or, refl, arith, sum}
use Rattle.std.proofs.lemmas.List.Sums.{sum_by-cons}
use Rattle.run_states.specs.Steps.{total}

-- parts that are the same have one sum
pub total_below : (f g : ℕ → ℕ) (count : ℕ) → ((n : ℕ) → n < count → f n ≡ g n)
    → total f count ≡ total g count
total_below f g zero same = refl
total_below f g (suc count) same =
    omega (
      arith,
      same 0 (omega arith),
      total_below (λ n. f (suc n)) (λ n. g (suc n)) count
          (λ n low. same (suc n) (omega (arith, low))),
    )

-- the sum of a list
pub total_list : (xs : List ℕ) → total (λ n. get_or xs n 0) (length xs) ≡ sum xs
total_list [] = refl
total_list (x ∷ xs) = omega (arith, total_list xs, sum_by-cons (λ n. n) x xs)
