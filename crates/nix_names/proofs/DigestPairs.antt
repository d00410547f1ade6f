-- The digits of each byte in a hexadecimal text.
use Rattle.std.proofs.Common.{◌≡◌, ◌≢◌, ◌+◌, ◌*◌, ◌<◌, ℕ, zero, suc, List, [], ◌∷◌, length, refl, ap, ◌∙◌, get_or, set, arith, rules}
use Rattle.std.specs.Prelude.{◌/◌, ◌%◌, All, slice_index}
use Rattle.std.proofs.lemmas.List.{ext_get_or}
use Rattle.std.proofs.lemmas.List.Edits.{fill_by_more}
use Rattle.hex.specs.Hex.{encode_lower, encode_with, lower_digits}
use Rattle.hex.proofs.HexLemmas.{length-encode_with}

-- the two digits of a byte
pub digits_at : (bytes : List ℕ) (at : ℕ) → at < length bytes
    → (slice_index (encode_lower bytes) (2 * at)
    ≡ slice_index lower_digits (slice_index bytes at / 16))
    × (slice_index (encode_lower bytes) (2 * at + 1)
    ≡ slice_index lower_digits (slice_index bytes at % 16))
unfolding encode_with
digits_at [] at within = absurd (omega arith)
digits_at (b ∷ rest) zero within = (refl, refl)
digits_at (b ∷ rest) (suc at) within =
    let again = digits_at rest at (omega arith) in
    let high : 2 * suc at ≡ suc (suc (2 * at)) = omega arith in
    let low : 2 * suc at + 1 ≡ suc (suc (2 * at + 1)) = omega arith in
    (rw high again.0, rw low again.1)

-- digits are twice as many as their bytes
pub twice_as_long : (n : ℕ) (digits bytes : List ℕ) → length digits ≡ 2 * n
    → digits ≡ encode_lower bytes → length bytes ≡ n
twice_as_long n digits bytes long same = search (rules, length-encode_with)

-- bytes are read up to an index
abbrev pub ReadUpTo : ℕ → List ℕ → List ℕ → Type 0
ReadUpTo i digits read = (bytes : List ℕ) → All (λ b. b < 256) bytes
    → digits ≡ encode_lower bytes → (k : ℕ) → k < i → get_or read k 0 ≡ get_or bytes k 0

-- what the reading of a digit tells
abbrev pub ReadsDigit : ℕ → ℕ → Type 0
ReadsDigit digit read = (value : ℕ) → value < 16 → digit ≡ slice_index lower_digits value
    → read ≡ value

-- one byte more is read
pub read_more : (i : ℕ) (digits read : List ℕ) (high low : ℕ) → length digits ≡ 2 * length read
    → i < length read → ReadsDigit (slice_index digits (2 * i)) high
    → ReadsDigit (slice_index digits (2 * i + 1)) low → ReadUpTo i digits read
    → ReadUpTo (i + 1) digits (set read i (16 * high + low))
read_more i digits read high low long within is_high is_low before =
    λ bytes each same k below.
    let count = twice_as_long (length read) digits bytes long same in
    let inside : i < length bytes = omega (arith, count) in
    let fits : slice_index bytes i < 256 = each i 0 inside in
    let two = digits_at bytes i inside in
    let h = is_high (slice_index bytes i / 16) (omega (arith, fits))
    (ap (λ (text : List ℕ). slice_index text (2 * i)) same ∙ two.0) in
    let l = is_low (slice_index bytes i % 16) (omega arith)
    (ap (λ (text : List ℕ). slice_index text (2 * i + 1)) same ∙ two.1) in
    let whole : 16 * high + low ≡ get_or bytes i 0 = omega (arith, h, l) in
    rw whole (fill_by_more (λ j. get_or bytes j 0) read i 0 within (before bytes each same) k below)

-- all bytes are read
pub read_all : (n : ℕ) (digits read : List ℕ) → length digits ≡ 2 * n → length read ≡ n
    → ReadUpTo n digits read → (bytes : List ℕ) → All (λ b. b < 256) bytes
    → digits ≡ encode_lower bytes → read ≡ bytes
read_all n digits read long count up bytes each same =
    let all = twice_as_long n digits bytes long same in
    ext_get_or 0 read bytes (omega (arith, count, all))
    (λ k below. up bytes each same k (omega (arith, count)))

-- a text of another length has no bytes' digits
pub no_count : (n : ℕ) (digits : List ℕ) → length digits ≢ 2 * n → (bytes : List ℕ)
    → length bytes ≡ n → digits ≢ encode_lower bytes
no_count n digits other bytes count same = search (rules, length-encode_with)
