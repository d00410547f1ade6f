-- Integers in decimal are read as themselves.
use Rattle.std.proofs.Common.{◌≡◌, ℕ, suc, ◌^◌, ◌<◌, ℤ, pos, negsuc, int_lt, SFits, w64, List, [], ◌∷◌, Bool, true, false, Some, None, bytes_eq, cond, codes, decimal, refl, sym, ap, ◌∙◌, subst, arith}
use Rattle.std.proofs.lemmas.Fmt.{decimal_is_IsNumeral, decimal_injective}
use Rattle.std.proofs.lemmas.Slice.Eq.{bytes_eq-Decides}
use Rattle.std.specs.Char.{digit_value}
use Rattle.std.specs.Fmt.{digits, signed_decimal}
use Rattle.std.specs.Str.Parse.{AllDigits}
use Rattle.serde_json.specs.Data.{Num, unsigned, negative, float}
use Rattle.serde_json.specs.Find.{as_u64, as_i64}
use Rattle.serde_json.proofs.Numbers.{number_of-decimal, number_of-negative}
use Rattle.structured_attrs.specs.Numerals.{number_of}

differ : (xs ys : List ℕ) (b : Bool) → bytes_eq xs ys ≡ b → (xs ≡ ys → ⊥) → b ≡ false
differ xs ys true e other = absurd (other ((bytes_eq-Decides xs ys).0 e))
differ xs ys false e other = refl

-- digits are not `-0`
no_minus : (ds : List ℕ) → AllDigits 10 ds → ds ≡ codes "-0" → ⊥
no_minus ds h e = let digit : digit_value 45 < 10 = (subst (AllDigits 10) e h).0 in grind arith

pub number_of-unsigned : (n : ℕ) → n < 2 ^ 64 → number_of (decimal n) ≡ Some (unsigned n)
number_of-unsigned n h =
    rw (differ (decimal n) (codes "-0") _ refl (no_minus (decimal n) (decimal_is_IsNumeral n h).0.1)) (number_of-decimal n h)

zero_text : decimal 0 ≡ 48 ∷ []
unfolding digits
zero_text = refl

after : List ℕ → List ℕ
after [] = []
after (x ∷ xs) = xs

above_zero : (n : ℕ) → n < 2 ^ 63 → signed_decimal (negsuc n) ≡ codes "-0" → ⊥
unfolding after
above_zero n h e =
    let same : decimal (suc n) ≡ decimal 0 = ap after e ∙ sym zero_text in
    let none : suc n ≡ 0 = decimal_injective (suc n) 0 (omega arith) (omega arith) same in
    omega arith

below_zero : (n : ℕ) → n < 2 ^ 63 → number_of (signed_decimal (negsuc n)) ≡ Some (negative (negsuc n))
below_zero n h = rw (differ (signed_decimal (negsuc n)) (codes "-0") _ refl (above_zero n h)) (number_of-negative n h)

pub number_of-below_zero : (z : ℤ) → int_lt z (pos 0) ≡ true → SFits w64 z → number_of (signed_decimal z) ≡ Some (negative z)
number_of-below_zero (pos n) e fits = absurd (grind arith)
number_of-below_zero (negsuc n) e fits = below_zero n (grind arith)

pub unsigned_is : (x : Num) (n : ℕ) → Some n ≡ as_u64 x → x ≡ unsigned n
unsigned_is (unsigned m) n e = cc
unsigned_is (negative z) n e = cc
unsigned_is (float x) n e = cc

not_below_zero : (b : Bool) (n : ℕ) (z : ℤ) → cond b (Some (pos n)) None ≡ Some z → int_lt z (pos 0) ≡ true → ⊥
not_below_zero true n (pos m) e below = grind arith
not_below_zero true n (negsuc m) e below = cc
not_below_zero false n z e below = cc

pub negative_is : (x : Num) (z : ℤ) → as_i64 x ≡ Some z → int_lt z (pos 0) ≡ true → x ≡ negative z
negative_is (unsigned n) z e below = absurd (not_below_zero _ n z e below)
negative_is (negative y) z e below = cc
negative_is (float x) z e below = cc
