-- What a binary search among elements tells of their keys.
use Rattle.std.proofs.Common.{◌≡◌, ℕ, ◌<◌, List, length, map, Some, None, sym, subst}
use Rattle.std.specs.Cmp.Lexicographic.{slice_cmp}
use Rattle.std.specs.List.{HoldsAt}
use Rattle.std.specs.List.Sorted.{IsNonDecreasingBy, IsPartitionPoint}
use Rattle.std.specs.Ordering.{nat_cmp, ordering_index}
use Rattle.std.specs.declared.cmp.Ordering.TheVariants.{Less, Equal, Greater}
use Rattle.nix_names.specs.Rising.{IsRising}
use Rattle.nix_drv.specs.Indices.{IsIndexOfKey}
use Rattle.nix_drv.proofs.Indices.{index_found, index_none}

pub key_found : {X : Type 0} (key_of : X → List ℕ) (xs : List X) (keys : List (List ℕ))
    (wanted : List ℕ) (i : ℕ) → map key_of xs ≡ keys → i < length xs
    → HoldsAt (λ y. slice_cmp nat_cmp (key_of y) wanted ≡ Equal) xs i
    → IsIndexOfKey keys wanted (Some i)
key_found key_of xs keys wanted i same below ties =
    subst (λ (ks : List (List ℕ)). IsIndexOfKey ks wanted (Some i)) same
    (index_found key_of _ _ i below ties)

pub key_none : {X : Type 0} (key_of : X → List ℕ) (xs : List X) (keys : List (List ℕ))
    (wanted : List ℕ) (i : ℕ) → map key_of xs ≡ keys → IsRising keys
    → (IsNonDecreasingBy (λ y. ordering_index (slice_cmp nat_cmp (key_of y) wanted)) xs
    → IsPartitionPoint (λ y. slice_cmp nat_cmp (key_of y) wanted ≡ Less)
    (λ y. slice_cmp nat_cmp (key_of y) wanted ≡ Greater) xs i)
    → IsIndexOfKey keys wanted None
key_none key_of xs keys wanted i same rises parts =
    subst (λ (ks : List (List ℕ)). IsIndexOfKey ks wanted None) same
    (index_none key_of _ _ i (subst IsRising (sym same) rises) parts)
