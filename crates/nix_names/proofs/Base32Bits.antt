-- Bytes and digits share their bits: eight digits are five bytes.
use Rattle.std.proofs.Common.{◌≡◌, ◌+◌, ◌*◌, ◌/◌, ◌%◌, ◌^◌, ◌<◌, ◌≤◌, ℕ, zero, suc, List, length, drop, get_or, sym, ap, ◌∙◌, Fits, w8, arith, rules}
use Rattle.std.proofs.Math.Nat.{pow-zero, pow-suc, div-div-eq-div-mul, pow-le-pow_right, one-le-pow}
use Rattle.std.proofs.lemmas.Nat.{pow-add, div_below}
use Rattle.std.proofs.lemmas.List.{get_or_past, drop_all, drop_more}
use Rattle.std.proofs.lemmas.List.Elements.{All-from_get_or}
use Rattle.std.proofs.lemmas.Bool.{cases_lt}
use Rattle.std.specs.List.{All}
use Rattle.nix_names.specs.Base32.{number, text_len}
use Rattle.nix_names.proofs.Base32Digits.{number_div, number_below}

-- a power of a power of two
pub pow_of_pow : (a n : ℕ) → (2 ^ a) ^ n ≡ 2 ^ (a * n)
pow_of_pow a zero = search (rules, pow-zero)
pow_of_pow a (suc n) = search (rules, pow-suc, pow-add, pow_of_pow a n)

-- the first digit, and the number of the rest, where a list may have ended
pub number_drop : (base : ℕ) (ds : List ℕ) (i : ℕ) → number base (drop i ds) ≡ get_or ds i 0
    + base * number base (drop (i + 1) ds)
number_drop base ds i = search (rules, cases_lt, drop_more, drop_all, get_or_past)

-- the five bits that begin at a bit of a byte lie in that byte and the next
pub bits_in_two : (low high more s : ℕ) → s < 8 → (low + 256 * (high + 256 * more)) / 2 ^ s % 32
    ≡ (high * 256 + low) / 2 ^ s % 32
bits_in_two low high more zero h = omega arith
bits_in_two low high more (suc zero) h = omega arith
bits_in_two low high more (suc (suc zero)) h = omega arith
bits_in_two low high more (suc (suc (suc zero))) h = omega arith
bits_in_two low high more (suc (suc (suc (suc zero)))) h = omega arith
bits_in_two low high more (suc (suc (suc (suc (suc zero))))) h = omega arith
bits_in_two low high more (suc (suc (suc (suc (suc (suc zero)))))) h = omega arith
bits_in_two low high more (suc (suc (suc (suc (suc (suc (suc zero))))))) h = omega arith
bits_in_two low high more (suc (suc (suc (suc (suc (suc (suc (suc s)))))))) h = absurd (omega arith)

-- a digit of bytes' number: five bits of two of the bytes
pub digit_of_bytes : (bytes : List ℕ) (index at s : ℕ) → All (λ b. b < 256) bytes → 8 * at + s
    ≡ 5 * index → s < 8 → number 256 bytes / 32 ^ index % 32
    ≡ (get_or bytes (at + 1) 0 * 256 + get_or bytes at 0) / 2 ^ s % 32
digit_of_bytes bytes index at s below e h =
    let wide : 32 ^ index ≡ 256 ^ at * 2 ^ s =
    pow_of_pow 5 index ∙ ap (λ x. 2 ^ x) (sym e) ∙ pow-add 2 (8 * at) s
    ∙ ap (λ x. x * 2 ^ s) (sym (pow_of_pow 8 at)) in
    rw (
      wide,
      ← div-div-eq-div-mul (number 256 bytes) (256 ^ at) (2 ^ s),
      number_div 256 bytes at below,
      number_drop 256 bytes at,
      number_drop 256 bytes (at + 1),
    )
    (bits_in_two (get_or bytes at 0) (get_or bytes (at + 1) 0)
    (number 256 (drop (at + 1 + 1) bytes)) s h)

-- the bytes of a slice are below 256
pub bytes_below : (bytes : List ℕ) → ((i : ℕ) → Fits w8 (get_or bytes i 0))
    → All (λ b. b < 256) bytes
bytes_below bytes fit = All-from_get_or (λ b. b < 256) bytes 0 (λ i h. omega (arith, fit i))

-- the digits have room for the bytes
pub digits_hold_bytes : (n : ℕ) → 256 ^ n ≤ 32 ^ text_len n
digits_hold_bytes n =
    rw (pow_of_pow 8 n, pow_of_pow 5 (text_len n)) (pow-le-pow_right (omega arith) (omega arith))

-- the eight bits that begin at a bit of a digit lie in that digit and the next two
bits_in_three : (low middle high more s : ℕ) → s < 5
    → (low + 32 * (middle + 32 * (high + 32 * more))) / 2 ^ s % 256
    ≡ (high * 1024 + middle * 32 + low) / 2 ^ s % 256
bits_in_three low middle high more zero h = omega arith
bits_in_three low middle high more (suc zero) h = omega arith
bits_in_three low middle high more (suc (suc zero)) h = omega arith
bits_in_three low middle high more (suc (suc (suc zero))) h = omega arith
bits_in_three low middle high more (suc (suc (suc (suc zero)))) h = omega arith
bits_in_three low middle high more (suc (suc (suc (suc (suc s))))) h = absurd (omega arith)

-- a byte of digits' number: eight bits of three of the digits
pub byte_of_digits : (ds : List ℕ) (at index s : ℕ) → All (λ d. d < 32) ds → 5 * index + s ≡ 8 * at
    → s < 5 → number 32 ds / 256 ^ at % 256
    ≡ (get_or ds (index + 2) 0 * 1024 + get_or ds (index + 1) 0 * 32 + get_or ds index 0) / 2 ^ s %
    256
byte_of_digits ds at index s below e h =
    let wide : 256 ^ at ≡ 32 ^ index * 2 ^ s =
    pow_of_pow 8 at ∙ ap (λ x. 2 ^ x) (sym e) ∙ pow-add 2 (5 * index) s
    ∙ ap (λ x. x * 2 ^ s) (sym (pow_of_pow 5 index)) in
    let next : index + 1 + 1 ≡ index + 2 = omega arith in
    rw (
      wide,
      ← div-div-eq-div-mul (number 32 ds) (32 ^ index) (2 ^ s),
      number_div 32 ds index below,
      number_drop 32 ds index,
      number_drop 32 ds (index + 1),
      next,
      number_drop 32 ds (index + 2),
    )
    (bits_in_three (get_or ds index 0) (get_or ds (index + 1) 0) (get_or ds (index + 2) 0)
    (number 32 (drop (index + 2 + 1) ds)) s h)

-- no bit of the digits is spare where the byte after the bytes is 0
pub spare_bits : (ds : List ℕ) (n : ℕ) → All (λ d. d < 32) ds → length ds ≡ text_len n
    → number 32 ds / 256 ^ n % 256 ≡ number 32 ds / 256 ^ n
spare_bits ds n below long =
    let wide : 32 ^ text_len n ≤ 2 ^ (8 * n + 8) =
    rw (pow_of_pow 5 (text_len n)) (pow-le-pow_right (omega arith) (omega arith)) in
    let room : 2 ^ (8 * n + 8) ≡ 256 * 256 ^ n = pow-add 2 (8 * n) 8
    ∙ ap (λ x. x * 256) (sym (pow_of_pow 8 n)) ∙ omega arith in
    let small : number 32 ds < 32 ^ text_len n = rw (← long) (number_below 32 ds below) in
    let some : 0 < 256 ^ n = one-le-pow n 256 (omega arith) in
    let top : number 32 ds / 256 ^ n < 256 = div_below (number 32 ds) (256 ^ n) 256 some
    (omega arith) in
    omega arith
