-- The table of the alphabet is that of its digits.
use Rattle.std.proofs.Common.{◌≡◌, ◌∙◌, ℕ, ◌-◌, ◌<◌, ◌≤◌, List, true, false, get_or, refl, ap, arith, ⊎_elim}
use Rattle.std.specs.Prelude.{map}
use Rattle.std.specs.List.{range_with_len}
use Rattle.std.proofs.lemmas.Bool.{cases_lt}
use Rattle.std.proofs.lemmas.List.FromFn.{get_or-map-range_with_len}
use Rattle.nix_names.specs.Base32.{is_digit}
use Rattle.ref_scan.specs.private.Parts.{AreDigits}
use Rattle.ref_scan.specs.declared.alphabet.TheConstants.{IS_DIGIT}

table_is : IS_DIGIT ≡ map is_digit (range_with_len 0 256)
table_is = refl

pub table_at : (b : ℕ) → b < 256 → get_or IS_DIGIT b false ≡ is_digit b
table_at b h = ap (λ t. get_or t b false) table_is
    ∙ get_or-map-range_with_len is_digit 0 256 b b false h (omega arith)

-- one digit more, before those from an offset on
pub digits_more :
    (bytes : List ℕ) (offset : ℕ) →
    0 < offset →
    AreDigits bytes offset 32 →
    is_digit (get_or bytes (offset - 1) 0) ≡ true →
    AreDigits bytes (offset - 1) 32
digits_more bytes offset some after here k low high =
    ⊎_elim
    (λ (lt : k < offset).
    let at : k ≡ offset - 1 = omega arith in
    ap (λ i. is_digit (get_or bytes i 0)) at ∙ here)
    (λ (le : offset ≤ k). after k le high)
    (cases_lt k offset)
