-- The base-32 text of bytes, character by character.
use Rattle.std.proofs.Common.{◌≡◌, ◌+◌, ◌-◌, ◌/◌, ◌%◌, ◌^◌, ◌<◌, ℕ, List, [], ◌∷◌, ◌++◌, length, get_or, take, ap, ◌∙◌, arith, rules}
use Rattle.std.specs.Prelude.{reverse}
use Rattle.std.specs.List.{All}
use Rattle.std.proofs.lemmas.List.{get_or-map, get_or-reverse, length-map, length-reverse, take_more}
use Rattle.nix_names.specs.Base32.{number, digits_of, digit_char, text_len, base32, StandsFor}
use Rattle.nix_names.proofs.Base32Digits.{length_digits_of, digits_of_at, digits_of_below, number_digits_of, number_below}
use Rattle.nix_names.proofs.Base32Bits.{digits_hold_bytes}

pub length_base32 : (bytes : List ℕ) → length (base32 bytes) ≡ text_len (length bytes)
unfolding base32
length_base32 bytes = search (rules, length-map, length-reverse, length_digits_of)

-- the character at an index
base32_at : (bytes : List ℕ) (i : ℕ) → i < text_len (length bytes) → get_or (base32 bytes) i 0
    ≡ digit_char (number 256 bytes / 32 ^ (text_len (length bytes) - 1 - i) % 32)
unfolding base32
base32_at bytes i h =
    let n = number 256 bytes in
    let len = text_len (length bytes) in
    let digits = digits_of 32 len n in
    let long : length digits ≡ len = length_digits_of 32 len n in
    get_or-map digit_char (reverse digits) i 0 0 (omega (arith, length-reverse digits))
    ∙ ap digit_char (get_or-reverse digits i 0 (omega arith)
    ∙ ap (λ k. get_or digits (k - 1 - i) 0) long
    ∙ digits_of_at 32 len n (len - 1 - i) (omega arith))

-- one character more
pub base32_more : (bytes : List ℕ) (i : ℕ) → i < text_len (length bytes)
    → take (i + 1) (base32 bytes) ≡ take i (base32 bytes)
    ++ digit_char (number 256 bytes / 32 ^ (text_len (length bytes) - 1 - i) % 32) ∷ []
base32_more bytes i h =
    take_more (base32 bytes) i 0 (omega (arith, length_base32 bytes))
    ∙ ap (λ c. take i (base32 bytes) ++ c ∷ []) (base32_at bytes i h)

-- a text that is the first characters, and one character more
pub base32_push : (bytes before after : List ℕ) (i len digit ch : ℕ) → i < len → len
    ≡ text_len (length bytes) → before ≡ take i (base32 bytes) → digit
    ≡ number 256 bytes / 32 ^ (len - 1 - i) % 32 → ch ≡ digit_char digit → after ≡ before
    ++ ch ∷ [] → after ≡ take (i + 1) (base32 bytes)
base32_push bytes before after i len digit ch h long first is_digit is_ch pushed =
    search (rules, base32_more)

-- the base-32 text of bytes stands for them
pub base32_stands : (bytes : List ℕ) → All (λ b. b < 256) bytes → StandsFor (base32 bytes) bytes
unfolding base32
base32_stands bytes below =
    search (rules, digits_of_below, length_digits_of, number_digits_of, number_below, digits_hold_bytes)
