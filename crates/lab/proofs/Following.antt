-- A rising list of paths, and one more.
use Rattle.std.proofs.Common.{◌≡◌, ℕ, zero, suc, ◌-◌, true, List, [], ◌∷◌, ◌++◌, length, Some, refl, subst, arith}
use Rattle.std.specs.Prelude.{slice_get}
use Rattle.std.specs.Ordering.{nat_cmp, is_lt}
use Rattle.std.specs.Cmp.Lexicographic.{slice_cmp}
use Rattle.std.specs.declared.cmp.Ordering.{Ordering}
use Rattle.std.specs.declared.cmp.Ordering.TheVariants.{Less, Equal, Greater}
use Rattle.nix_names.specs.Rising.{IsRising}

pub rising_after :
    (xs : List (List ℕ)) (n : ℕ) (last y : List ℕ) →
    n ≡ length xs - 1 →
    slice_get xs n ≡ Some last →
    slice_cmp nat_cmp last y ≡ Less →
    IsRising xs →
    IsRising (xs ++ y ∷ [])
rising_after [] n last y long is below rises = tt
rising_after (x ∷ []) zero last y long is below rises =
    let e : last ≡ x = cc in (subst (λ z. slice_cmp nat_cmp z y ≡ Less) e below, tt)
rising_after (x ∷ []) (suc n) last y long is below rises = absurd (omega arith)
rising_after (x ∷ z ∷ zs) zero last y long is below rises = absurd (omega arith)
rising_after (x ∷ z ∷ zs) (suc n) last y long is below rises =
    (rises.0, rising_after (z ∷ zs) n last y (omega arith) is below rises.1)

pub less_from : (o : Ordering) → is_lt o ≡ true → o ≡ Less
less_from Less is = refl
less_from Equal is = cc
less_from Greater is = cc
