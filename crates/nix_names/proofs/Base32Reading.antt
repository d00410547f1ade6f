-- What a text stands for, and what is wrong with one that stands for nothing.
use Rattle.std.proofs.Common.{◌≡◌, ◌-◌, ◌/◌, ◌%◌, ◌^◌, ◌<◌, ◌==◌, ℕ, Bool, true, false, List, Option, Some, None, length, get_or, refl, sym, ap, subst, ◌∙◌, arith, rules}
use Rattle.std.specs.Prelude.{map, reverse, not, nat_lt, cond, if◌then◌else◌}
use Rattle.std.specs.List.{All, AllPass, position, position_or_len}
use Rattle.std.proofs.Math.Nat.{one-le-pow, mod-add-div}
use Rattle.std.proofs.lemmas.Nat.{mod_below}
use Rattle.std.proofs.lemmas.Bool.{ltb-true, ltb-false, lt-ltb, le-ltb, eqb-true, eq-eqb, not-false, not_from_true}
use Rattle.std.proofs.lemmas.List.{get_or-map, get_or-reverse, length-map, length-reverse, reverse-reverse}
use Rattle.std.proofs.lemmas.List.Elements.{All-from_get_or}
use Rattle.std.proofs.lemmas.List.Sums.{fails_before_first, position_or_len_is}
use Rattle.nix_names.specs.declared.fault.NameFault.TheVariants.{BadLength, Overflow}
use Rattle.nix_names.specs.Base32.{digits_of, digit_of, is_digit, text_len, text_number, base32_fault, digits_fault, StandsFor}
use Rattle.nix_names.proofs.Base32Digits.{length_digits_of, number_digits_of}
use Rattle.nix_names.proofs.Base32Bits.{spare_bits}
use Rattle.nix_names.proofs.Base32Chars.{digit_of_below, map_digit_char}

-- the digits of a text, the least significant first
abbrev pub digits_in : List ℕ → List ℕ
digits_in text = reverse (map digit_of text)

pub length_digits_in : (text : List ℕ) → length (digits_in text) ≡ length text
length_digits_in text = length-reverse (map digit_of text) ∙ length-map text digit_of

-- the digit at an index from the end
pub digit_in : (text : List ℕ) (index : ℕ) → index < length text → get_or (digits_in text) index 0
    ≡ digit_of (get_or text (length text - 1 - index) 0)
digit_in text index h = search (rules, get_or-reverse, length-map, get_or-map)

pub digits_in_below : (text : List ℕ) → AllPass is_digit text → All (λ d. d < 32) (digits_in text)
digits_in_below text are =
    All-from_get_or (λ d. d < 32) (digits_in text) 0
    (λ k h.
    let within : k < length text = omega (arith, length_digits_in text) in
    subst (λ d. d < 32) (sym (digit_in text k within))
    (digit_of_below (get_or text (length text - 1 - k) 0)
    (are (length text - 1 - k) 0 (omega arith))))

-- what holds of all of a list holds of all from its end
pub All-reverse : (P : ℕ → Type 0) (xs : List ℕ) → All P xs → All P (reverse xs)
All-reverse P xs all = search (rules, All-from_get_or, length-reverse, get_or-reverse)

cond_none : (b : Bool) (index : ℕ) → cond b (Some index) None ≡ None → b ≡ false
cond_none true index none = cc
cond_none false index none = refl

-- a list in which no element fails
pub pass_where_none_fails : (p : ℕ → Bool) (xs : List ℕ) → position (λ x. not (p x)) xs ≡ None
    → AllPass p xs
pass_where_none_fails p xs none k d h =
    search (rules, ltb-false, cond_none, not-false, fails_before_first)

pub none_fails_where_all_pass : (p : ℕ → Bool) (xs : List ℕ) → AllPass p xs
    → position (λ x. not (p x)) xs ≡ None
none_fails_where_all_pass p xs pass =
    let first : position_or_len (λ x. not (p x)) xs ≡ length xs =
    position_or_len_is (λ x. not (p x)) xs (length xs) 0 (omega arith)
    (λ k h. not_from_true (p (get_or xs k 0)) (pass k 0 h)) (λ h. absurd (omega arith)) in
    rw (first, le-ltb (length xs) (length xs) (omega arith))

-- ---- what is wrong with a text

-- the texts with no fault: as many characters as the bytes take, all of them digits, and a number
-- with no spare bit
pub record IsText (text : List ℕ) (n : ℕ) : Type 0 where
  pub long : length text ≡ text_len n
  pub digits : AllPass is_digit text
  pub small : text_number text < 256 ^ n

fault_parts : (same : Bool) (bad : Option ℕ) (value limit : ℕ)
    → (if not same then Some BadLength else digits_fault bad value limit) ≡ None → (same ≡ true)
    × (bad ≡ None) × (nat_lt value limit ≡ true)
fault_parts false bad value limit none = cc
fault_parts true (Some index) value limit none = cc
fault_parts true None value limit none = (refl, refl, small_where_none (nat_lt value limit) none)
  where
    small_where_none : (b : Bool) → (if b then None else Some Overflow) ≡ None → b ≡ true
    small_where_none true none = refl
    small_where_none false none = cc

pub text_where_no_fault : (text : List ℕ) (n : ℕ) → base32_fault text n ≡ None → IsText text n
text_where_no_fault text n none =
    let parts = fault_parts (length text == text_len n) (position (λ c. not (is_digit c)) text)
    (text_number text) (256 ^ n) none in
    record {
      long = eqb-true (length text) (text_len n) parts.0;
      digits = pass_where_none_fails is_digit text parts.1;
      small = ltb-true (text_number text) (256 ^ n) parts.2;
    }

pub no_fault_in_text : (text : List ℕ) (n : ℕ) → IsText text n → base32_fault text n ≡ None
no_fault_in_text text n is =
    rw (
      eq-eqb (length text) (text_len n) is.long,
      none_fails_where_all_pass is_digit text is.digits,
      lt-ltb (text_number text) (256 ^ n) is.small,
    )

below_where_none : (n k : ℕ) → 0 < k → n / k ≡ 0 → n < k
below_where_none n k some none = search (rules, mod-add-div, mod_below)

-- a text whose byte after the n is 0
pub small_text : (text : List ℕ) (n : ℕ) → length text ≡ text_len n → AllPass is_digit text
    → text_number text / 256 ^ n % 256 ≡ 0 → IsText text n
small_text text n long are none =
    let spare = spare_bits (digits_in text) n (digits_in_below text are)
    (length_digits_in text ∙ long) in
    record {
      long = long;
      digits = are;
      small = below_where_none (text_number text) (256 ^ n) (one-le-pow n 256 (omega arith))
          (omega arith);
    }

-- ---- what a text stands for

-- a text with no fault stands for the digits of its number to the base 256
pub text_stands : (text : List ℕ) (n : ℕ) → IsText text n
    → StandsFor text (digits_of 256 n (text_number text))
text_stands text n is =
    record {
      digits = digits_in text;
      spelled = rw reverse-reverse (sym (map_digit_char text is.digits));
      below = digits_in_below text is.digits;
      count = length_digits_in text ∙ is.long
          ∙ ap text_len (sym (length_digits_of 256 n (text_number text)));
      same = sym (number_digits_of 256 n (text_number text) (omega arith) is.small);
    }
