-- Elements of lists by their indices.
use Rattle.std.proofs.Common.{◌≡◌, ◌≢◌, ◌⊎◌, inl, inr, ℕ, zero, suc, List, [], ◌∷◌, Some, refl, ap, arith, rules}
use Rattle.std.specs.List.{slice_get}
use Rattle.std.proofs.Math.ListN.{set}

-- an element after one was set is that one, or an old one elsewhere
pub set_cases : {X : Type 0} (xs : List X) (i j : ℕ) (y z : X) → slice_get (set xs i y) j ≡ Some z
    → ((j ≡ i) × (z ≡ y)) ⊎ ((j ≢ i) × (slice_get xs j ≡ Some z))
set_cases [] i j y z at = absurd cc
set_cases (x ∷ xs) zero zero y z at = inl (refl, cc)
set_cases (x ∷ xs) zero (suc j) y z at = inr (λ e. omega arith, at)
set_cases (x ∷ xs) (suc i) zero y z at = inr (λ e. omega arith, at)
set_cases (x ∷ xs) (suc i) (suc j) y z at = search (rules, set_cases xs i j y z at)

-- what was set stands there, and all else stays
pub set_same : {X : Type 0} (xs : List X) (i : ℕ) (x y : X) → slice_get xs i ≡ Some x
    → slice_get (set xs i y) i ≡ Some y
set_same [] i x y at = absurd cc
set_same (z ∷ zs) zero x y at = refl
set_same (z ∷ zs) (suc i) x y at = set_same zs i x y at

pub set_other : {X : Type 0} (xs : List X) (i j : ℕ) (y x : X) → j ≢ i → slice_get xs j ≡ Some x
    → slice_get (set xs i y) j ≡ Some x
set_other [] i j y x apart at = absurd cc
set_other (z ∷ zs) zero zero y x apart at = absurd (apart refl)
set_other (z ∷ zs) zero (suc j) y x apart at = at
set_other (z ∷ zs) (suc i) zero y x apart at = at
set_other (z ∷ zs) (suc i) (suc j) y x apart at = set_other zs i j y x (λ e. apart (ap suc e)) at
