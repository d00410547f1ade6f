-- The text that Nix writes of a double in `.attrs.json` (JSON for Modern C++, `to_chars`: digits
-- that give the same double, plain from 0.0001 up to 15 digits before the point, else with an
-- exponent of two digits or more).
use Rattle.std.specs.Prelude.{◌≡◌, ◌≢◌, ◌⊎◌, ◌+◌, ◌-◌, ◌<◌, ℕ, List, [], ◌∷◌, ◌++◌, Bool, Float, IsTrue, Some, codes, decimal, drop, if◌then◌else◌, length, nat_le, nat_lt, replicate, slice_index, take}
use Rattle.std.specs.Fmt.{sign_text}
use Rattle.std.specs.Char.{is_ascii_digit}
use Rattle.std.specs.List.{list_all}
use Rattle.serde_json.specs.Data.{float}
use Rattle.structured_attrs.specs.Numerals.{number_of}
use Rattle.structured_attrs.specs.declared.decimal.Point.{Point}
use Rattle.structured_attrs.specs.declared.decimal.Point.TheVariants.{After, Before}

-- the digits of an exponent: two at least
abbrev pub exponent_digits : ℕ → List ℕ
exponent_digits e = if nat_lt e 10 then 48 ∷ decimal e else decimal e

-- a point and the digits after it, where there are any
abbrev pub fraction_text : List ℕ → List ℕ
fraction_text [] = []
fraction_text (d ∷ ds) = 46 ∷ d ∷ ds

-- the first digit, the others after a point, and an exponent with its sign
abbrev pub scientific_text : (digits : List ℕ) → (sign e : ℕ) → List ℕ
scientific_text digits sign e =
    take 1 digits ++ (fraction_text (drop 1 digits) ++ (101 ∷ sign ∷ exponent_digits e))

-- digits with the point after some of them, with zeros and `.0` where there are fewer digits
abbrev pub plain_text : List ℕ → ℕ → List ℕ
plain_text digits n =
    if nat_le (length digits) n then digits ++ (replicate (n - length digits) 48 ++ codes ".0")
    else take n digits ++ (46 ∷ drop n digits)

-- The text of a number that is not negative, by its digits and its point: plain where at most 15
-- digits stand before the point, or at most 3 zeros after it and before the first digit.
abbrev pub size_text : List ℕ → Point → List ℕ
size_text digits (After n) =
    if nat_le n 15 then plain_text digits n else scientific_text digits 43 (n - 1)
size_text digits (Before zeros) =
    if nat_lt zeros 4 then codes "0." ++ (replicate zeros 48 ++ digits)
    else scientific_text digits 45 (zeros + 1)

-- no digit stands there that says nothing: it is 0 alone, or begins and ends with another digit
abbrev pub IsTrimmed : List ℕ → Type 0
IsTrimmed digits = (digits ≡ 48 ∷ [])
    ⊎ ((0 < length digits) × (slice_index digits 0 ≢ 48)
    × (slice_index digits (length digits - 1) ≢ 48))

-- A text of a double: perhaps a minus, and then the text of some digits and a point, which is read
-- as that double. (Which of the digits that are read so is not said here.)
pub record IsFloatText (x : Float) (text : List ℕ) : Type 0 where
  pub negative : Bool
  pub digits : List ℕ
  pub point : Point
  pub are_digits : IsTrue (list_all is_ascii_digit digits)
  pub trimmed : IsTrimmed digits
  pub bytes : text ≡ sign_text negative ++ size_text digits point
  pub read_back : number_of text ≡ Some (float x)
