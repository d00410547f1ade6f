-- The pairs that tokens are, one after the other.
use Rattle.std.proofs.Common.{◌≡◌, ◌∙◌, ℕ, ◌-◌, ◌≤◌, List, [], ◌∷◌, ◌++◌, Bor, Option, Some, ap, arith, drop, get_or, length, map, refl, sym, take}
use Rattle.std.proofs.lemmas.List.{map-append, take_all}
use Rattle.structured_attrs.proofs.Gathered.{gathered, gathered-more}
use Rattle.builder_start.specs.Entries.{pairs_of}
use Rattle.builder_start.specs.declared.pairs.Pair.{Pair}
use Rattle.builder_start.specs.private.Shown.{shown_pair}

-- one pair more
pub one_pair : (done new : List Pair) (rest : List (Bor (List ℕ))) (d : Bor (List ℕ))
    (all : Option (List (List ℕ × List ℕ))) → 2 ≤ length rest
    → gathered (map shown_pair done) (pairs_of (map (λ (t : Bor (List ℕ)). t.now) rest)) ≡ all
    → new ≡ done ++ record { name = get_or rest 0 d; text = get_or rest 1 d } ∷ []
    → gathered (map shown_pair new)
    (pairs_of (map (λ (t : Bor (List ℕ)). t.now) (take (length rest - 2) (drop 2 rest)))) ≡ all
one_pair done new [] d all two is more = absurd (omega arith)
one_pair done new (x ∷ []) d all two is more = absurd (omega arith)
one_pair done new (x ∷ y ∷ rest) d all two is more =
    let pair : List ℕ × List ℕ = (x.now, y.now) in
    let left : take (length (x ∷ y ∷ rest) - 2) rest ≡ rest =
    take_all (length (x ∷ y ∷ rest) - 2) rest (omega arith) in
    ap (λ (ts : List (Bor (List ℕ))). gathered (map shown_pair new)
    (pairs_of (map (λ (t : Bor (List ℕ)). t.now) ts))) left
    ∙ ap (λ (ps : List Pair). gathered (map shown_pair ps)
    (pairs_of (map (λ (t : Bor (List ℕ)). t.now) rest))) more
    ∙ ap (λ (ps : List (List ℕ × List ℕ)). gathered ps
    (pairs_of (map (λ (t : Bor (List ℕ)). t.now) rest)))
    (map-append shown_pair done (record { name = x; text = y } ∷ []))
    ∙ sym (gathered-more (λ (p : List ℕ × List ℕ). p ∷ []) (map shown_pair done) (Some pair) pair
    (pairs_of (map (λ (t : Bor (List ℕ)). t.now) rest)) refl)
    ∙ is
