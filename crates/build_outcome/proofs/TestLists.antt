-- Lists of tests, by their fronts.
use Rattle.std.proofs.Common.{◌≡◌, ◌∙◌, ⊎_elim, ℕ, zero, suc, ◌+◌, ◌-◌, ◌<◌, [], ◌∷◌, ◌++◌, map, ap, subst, arith}
use Rattle.std.specs.Prelude.{All}
use Rattle.std.specs.List.{flat_map, range_with_len}
use Rattle.std.proofs.lemmas.Grind.{flat_map-append}
use Rattle.std.proofs.lemmas.List.{map-append}
use Rattle.std.proofs.lemmas.List.Concat.{flat_map-cons}
use Rattle.nix_names.proofs.Lists.{All-from_contains, Contains-cons_cases, Contains-nothing}
use Rattle.build_outcome.specs.Checks.{OfFixed, checks_at}

-- ---- numbers in order

range_split : (from count n k m : ℕ) → count ≡ n + suc k → m ≡ from + n
    → range_with_len from count ≡ range_with_len from n ++ m ∷ range_with_len (m + 1) k
range_split from zero n k m long at = absurd (omega arith)
range_split from (suc count) zero k m long at =
    let same : from ≡ m = omega arith in
    let rest : count ≡ k = omega arith in
    ap (λ a. a ∷ range_with_len (a + 1) count) same
    ∙ ap (λ b. m ∷ range_with_len (m + 1) b) rest
range_split from (suc count) (suc n) k m long at =
    ap (λ l. from ∷ l) (range_split (from + 1) count n k m (omega arith) (omega arith))

range_parts : (count n : ℕ) → n < count
    → range_with_len 0 count ≡ range_with_len 0 n ++ n ∷ range_with_len (n + 1) (count - n - 1)
range_parts count n low = range_split 0 count n (count - n - 1) n (omega arith) (omega arith)

range_more : (n : ℕ) → range_with_len 0 (n + 1) ≡ range_with_len 0 n ++ n ∷ []
range_more n = range_split 0 (n + 1) n 0 n (omega arith) (omega arith)

-- ---- lists of tests

pub all_none : {X : Type 0} (P : X → Type 0) → All P []
all_none P = All-from_contains P [] (λ x has. absurd (Contains-nothing x has))

pub all_one : {X : Type 0} (P : X → Type 0) (x : X) → P x → All P (x ∷ [])
all_one P x is = All-from_contains P (x ∷ []) (λ y has. ⊎_elim
    (λ e. subst P e is)
    (λ none. absurd (Contains-nothing y none))
    (Contains-cons_cases x [] y has))

pub fixed_parts : (count n : ℕ) → n < count → map OfFixed (range_with_len 0 count)
    ≡ map OfFixed (range_with_len 0 n) ++ OfFixed n
    ∷ map OfFixed (range_with_len (n + 1) (count - n - 1))
fixed_parts count n low = ap (map OfFixed) (range_parts count n low)
    ∙ map-append OfFixed (range_with_len 0 n) (n ∷ range_with_len (n + 1) (count - n - 1))

pub fixed_more : (n : ℕ) → map OfFixed (range_with_len 0 (n + 1))
    ≡ map OfFixed (range_with_len 0 n) ++ OfFixed n ∷ []
fixed_more n = ap (map OfFixed) (range_more n) ∙ map-append OfFixed (range_with_len 0 n) (n ∷ [])

pub checks_parts : (count n : ℕ) → n < count → flat_map checks_at (range_with_len 0 count)
    ≡ flat_map checks_at (range_with_len 0 n)
    ++ (checks_at n ++ flat_map checks_at (range_with_len (n + 1) (count - n - 1)))
checks_parts count n low = ap (flat_map checks_at) (range_parts count n low)
    ∙ flat_map-append checks_at (range_with_len 0 n) (n ∷ range_with_len (n + 1) (count - n - 1))
    ∙ ap (λ l. flat_map checks_at (range_with_len 0 n) ++ l)
    (flat_map-cons checks_at n (range_with_len (n + 1) (count - n - 1)))

pub checks_more : (n : ℕ) → flat_map checks_at (range_with_len 0 (n + 1))
    ≡ flat_map checks_at (range_with_len 0 n) ++ checks_at n
checks_more n = ap (flat_map checks_at) (range_more n)
    ∙ flat_map-append checks_at (range_with_len 0 n) (n ∷ [])
    ∙ ap (λ l. flat_map checks_at (range_with_len 0 n) ++ l) (flat_map-cons checks_at n [])
