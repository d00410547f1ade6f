-- The characters of digits.
use Rattle.std.proofs.Common.{◌≡◌, ◌+◌, ◌<◌, ◌==◌, ℕ, suc, Bool, true, false, List, [], ◌∷◌, ◌||◌, length, refl, arith, rules}
use Rattle.std.specs.Prelude.{◌/◌, ◌%◌, ◌^◌, nat_lt, map, cond, not, slice_index}
use Rattle.std.specs.List.{list_all, list_any, range_with_len, position_or_len, All}
use Rattle.std.proofs.lemmas.Bool.{eqb-true, ltb-true}
use Rattle.std.proofs.lemmas.List.Elements.{All-head, All-tail}
use Rattle.std.proofs.lemmas.List.Sums.{passes_at_first}
use Rattle.nix_names.specs.Base32.{alphabet, digit_char, digit_of, is_digit}
use Rattle.nix_names.proofs.Base32Runs.{each_from}

-- a test that each digit passes
each_digit : (p : ℕ → Bool) → list_all p (range_with_len 0 32) ≡ true → (d : ℕ) → d < 32 → p d
    ≡ true
each_digit p all d h = each_from 0 32 p all d (omega arith) (omega arith)

pub digit_char_ascii : (d : ℕ) → d < 32 → digit_char d < 128
digit_char_ascii d h = ltb-true (digit_char d) 128
    (each_digit (λ x. nat_lt (digit_char x) 128) refl d h)

pub digit_of_digit_char : (d : ℕ) → d < 32 → digit_of (digit_char d) ≡ d
unfolding digit_of
digit_of_digit_char d h = eqb-true (digit_of (digit_char d)) d
    (each_digit (λ x. digit_of (digit_char x) == x) refl d h)

pub is_digit_digit_char : (d : ℕ) → d < 32 → is_digit (digit_char d) ≡ true
is_digit_digit_char d h = each_digit (λ x. is_digit (digit_char x)) refl d h

-- one element, and the index of the first that passes
first_after : (b : Bool) (any : Bool) (first len : ℕ) → (any ≡ true → first < len) → (b || any)
    ≡ true → cond (not b) (1 + first) 0 < suc len
first_after true any first len rest some = omega arith
first_after false any first len rest some = omega (arith, rest some)

-- a list with an element that passes has a first one
first_of_any : {X : Type 0} (p : X → Bool) (xs : List X) → list_any p xs ≡ true
    → position_or_len p xs < length xs
first_of_any p [] any = absurd (cc)
first_of_any p (x ∷ xs) any = search (rules, first_after, first_of_any p xs)

pub digit_of_below : (c : ℕ) → is_digit c ≡ true → digit_of c < 32
unfolding digit_of
digit_of_below c is = first_of_any (λ a. a == c) alphabet is

-- the character at the index where a character is found
char_at_index : (c : ℕ) → digit_of c < 32 → digit_char (digit_of c) ≡ c
unfolding digit_of
char_at_index c below = eqb-true (digit_char (digit_of c)) c
    (passes_at_first (λ a. a == c) alphabet 0 below)

pub digit_char_digit_of : (c : ℕ) → is_digit c ≡ true → digit_char (digit_of c) ≡ c
digit_char_digit_of c is = char_at_index c (digit_of_below c is)

-- a truth as a bit
abbrev bit : Bool → ℕ
bit true = 1
bit false = 0

-- a truth is told by its bit
told_by_bit : (n : ℕ) (b : Bool) → n ≡ bit b → (n == 1) ≡ b
told_by_bit n true e = rw e refl
told_by_bit n false e = rw e refl

-- the bit of a character in eight words of 32 bits
abbrev bit_in : List ℕ → ℕ → ℕ
bit_in words c = slice_index words (c / 32) / 2 ^ (c % 32) % 2

-- the words in which the bits of the alphabet are set
abbrev digit_bits : List ℕ
digit_bits = 0 ∷ 67043328 ∷ 0 ∷ 131039198 ∷ 0 ∷ 0 ∷ 0 ∷ 0 ∷ []

pub is_digit_by_bit : (c : ℕ) → c < 256 → (bit_in digit_bits c == 1) ≡ is_digit c
is_digit_by_bit c below =
    told_by_bit (bit_in digit_bits c) (is_digit c)
    (eqb-true (bit_in digit_bits c) (bit (is_digit c))
    (each_from 0 256 (λ x. bit_in digit_bits x == bit (is_digit x)) refl c (omega arith)
    (omega arith)))

pub map_digit_of : (ds : List ℕ) → All (λ d. d < 32) ds → map digit_of (map digit_char ds) ≡ ds
map_digit_of [] below = refl
map_digit_of (d ∷ ds) below =
    rw (
      digit_of_digit_char d (All-head (λ x. x < 32) d ds below),
      map_digit_of ds (All-tail (λ x. x < 32) d ds below),
    )

pub map_digit_char : (text : List ℕ) → All (λ c. is_digit c ≡ true) text
    → map digit_char (map digit_of text) ≡ text
map_digit_char [] are = refl
map_digit_char (c ∷ text) are =
    rw (
      digit_char_digit_of c (All-head (λ x. is_digit x ≡ true) c text are),
      map_digit_char text (All-tail (λ x. is_digit x ≡ true) c text are),
    )
