-- The laws of base-32: one text for the bytes, one list of so many bytes for a text.
use Rattle.std.proofs.Common.{◌≡◌, ◌<◌, ℕ, true, List, None, length, sym, ap, subst, ◌∙◌, arith, rules}
use Rattle.std.specs.Prelude.{◌↔◌, map, reverse}
use Rattle.std.specs.List.{All}
use Rattle.std.proofs.lemmas.List.{length-map, length-reverse, reverse-reverse}
use Rattle.std.proofs.lemmas.List.Elements.{All-map, All-weaker}
use Rattle.nix_names.specs.Base32.{number, digits_of, digit_char, is_digit, text_len, text_number, base32, base32_fault, StandsFor}
use Rattle.nix_names.proofs.Base32Digits.{length_digits_of, digits_of_below, digits_of_number, number_below}
use Rattle.nix_names.proofs.Base32Chars.{is_digit_digit_char, map_digit_of}
use Rattle.nix_names.proofs.Base32Texts.{base32_stands}
use Rattle.nix_names.proofs.Base32Reading.{digits_in, All-reverse, IsText, text_where_no_fault, no_fault_in_text, text_stands}

-- a text that stands for bytes is their base-32 text
pub base32_of_stood : (text bytes : List ℕ) → StandsFor text bytes → text ≡ base32 bytes
unfolding base32
base32_of_stood text bytes stands = search (rules, digits_of_number)

pub stood_of_base32 : (text bytes : List ℕ) → All (λ b. b < 256) bytes → text ≡ base32 bytes
    → StandsFor text bytes
stood_of_base32 text bytes below is = search (rules, base32_stands)

-- the digits that stand for bytes are those in the text
digits_stood : (text bytes : List ℕ) → (stands : StandsFor text bytes) → digits_in text
    ≡ stands.digits
digits_stood text bytes stands =
    let all = All-reverse (λ d. d < 32) stands.digits stands.below in
    ap digits_in stands.spelled ∙ ap reverse (map_digit_of (reverse stands.digits) all)
    ∙ reverse-reverse stands.digits

-- a text's number is that of the bytes for which it stands
pub number_stood : (text bytes : List ℕ) → StandsFor text bytes → text_number text
    ≡ number 256 bytes
number_stood text bytes stands = ap (λ ds. number 32 ds) (digits_stood text bytes stands)
    ∙ stands.same

-- a text stands for at most one list of so many bytes
pub one_stood : (text a b : List ℕ) → length a ≡ length b → All (λ x. x < 256) a
    → All (λ x. x < 256) b → StandsFor text a → StandsFor text b → a ≡ b
one_stood text a b long below_a below_b stands_a stands_b =
    let same : number 256 a ≡ number 256 b = sym (number_stood text a stands_a)
    ∙ number_stood text b stands_b in
    sym (digits_of_number 256 a below_a) ∙ rw (long, same) (digits_of_number 256 b below_b)

-- nothing is wrong with a text that stands for so many bytes
text_of_stood : (text bytes : List ℕ) (n : ℕ) → length bytes ≡ n → All (λ b. b < 256) bytes
    → StandsFor text bytes → IsText text n
text_of_stood text bytes n long below stands =
    let spelled : text ≡ map digit_char (reverse stands.digits) = stands.spelled in
    let all = All-reverse (λ d. d < 32) stands.digits stands.below in
    record {
      long = ap length spelled ∙ length-map (reverse stands.digits) digit_char
          ∙ length-reverse stands.digits ∙ stands.count ∙ ap text_len long;
      digits =
          subst (λ t. All (λ c. is_digit c ≡ true) t) (sym spelled)
          (All-map (λ c. is_digit c ≡ true) digit_char (reverse stands.digits)
          (All-weaker (λ d. d < 32) (λ d. is_digit (digit_char d) ≡ true) is_digit_digit_char
          (reverse stands.digits) all));
      small = rw (number_stood text bytes stands, ← long) (number_below 256 bytes below);
    }

pub fault_exact : (text : List ℕ) (n : ℕ) → (base32_fault text n ≡ None)
    ↔ ((bytes : List ℕ) × (length bytes ≡ n) × All (λ b. b < 256) bytes × StandsFor text bytes)
fault_exact text n = (
  (λ none. (
    digits_of 256 n (text_number text),
    length_digits_of 256 n (text_number text),
    digits_of_below 256 n (text_number text) (omega arith),
    text_stands text n (text_where_no_fault text n none),
  )),
  (λ some. no_fault_in_text text n (text_of_stood text some.0 n some.1 some.2 some.3)),
)
