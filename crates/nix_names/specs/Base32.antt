-- *Base-32*, the notation of hash parts (Nix manual, "Store Path"; Dolstra's thesis, section 5.1).
-- n bytes are one number, in which byte i weighs 256^i; its text is that number in base-32 digits,
-- the most significant first.
use Rattle.std.specs.Prelude.{◌≡◌, ◌+◌, ◌*◌, ◌/◌, ◌%◌, ◌^◌, ◌<◌, ◌==◌, not, Bool, ℕ, zero, suc, List, [], ◌∷◌, length, map, reverse, slice_index, codes, nat_lt, Option, Some, None, if◌then◌else◌}
use Rattle.std.specs.List.{list_any, position, position_or_len, All}
use Rattle.nix_names.specs.Bytes.{Bytes}
use Rattle.nix_names.specs.declared.fault.NameFault.{NameFault}
use Rattle.nix_names.specs.declared.fault.NameFault.TheVariants.{BadLength, BadChar, Overflow}

-- the digits' characters, those of 0 to 31: no e, o, t or u
abbrev pub alphabet : Bytes
alphabet = codes "0123456789abcdfghijklmnpqrsvwxyz"

-- the character of a digit
abbrev pub digit_char : ℕ → ℕ
digit_char d = slice_index alphabet d

-- whether a character is one of the alphabet
abbrev pub is_digit : ℕ → Bool
is_digit c = list_any (λ a. a == c) alphabet

-- the number whose digits to the base are these, the least significant first
abbrev pub number : ℕ → List ℕ → ℕ
number base [] = 0
number base (d ∷ ds) = d + base * number base ds

-- how many characters n bytes take: 8n bits, five to a character, rounded up
abbrev pub text_len : ℕ → ℕ
text_len n = (8 * n + 4) / 5

-- A text stands for some bytes: it has their count of characters, and read as digits it is their
-- number.
pub record StandsFor (text bytes : Bytes) : Type 0 where
  pub digits : List ℕ
  pub spelled : text ≡ map digit_char (reverse digits)
  pub below : All (λ d. d < 32) digits
  pub count : length digits ≡ text_len (length bytes)
  pub same : number 32 digits ≡ number 256 bytes

-- the first k digits of n to a base, the least significant first
abbrev pub digits_of : ℕ → ℕ → ℕ → List ℕ
digits_of base zero n = []
digits_of base (suc k) n = n % base ∷ digits_of base k (n / base)

-- the text of some bytes
unfoldable pub base32 : Bytes → Bytes
base32 bytes = map digit_char (reverse (digits_of 32 (text_len (length bytes)) (number 256 bytes)))

-- the digit of a character, or 32 where it is none of the alphabet
unfoldable pub digit_of : ℕ → ℕ
digit_of c = position_or_len (λ a. a == c) alphabet

-- the number that a text's digits write
abbrev pub text_number : Bytes → ℕ
text_number text = number 32 (reverse (map digit_of text))

-- what is wrong first with digits' first bad offset, their number and the number that is too large,
-- if anything
abbrev pub digits_fault : Option ℕ → ℕ → ℕ → Option NameFault
digits_fault (Some offset) value limit = Some (BadChar offset)
digits_fault None value limit = if nat_lt value limit then None else Some Overflow

-- what is wrong first with a text as the text of n bytes, if anything: its length, its first
-- character that is no digit, its number
abbrev pub base32_fault : Bytes → ℕ → Option NameFault
base32_fault text n =
    if not (length text == text_len n) then Some BadLength
    else digits_fault (position (λ c. not (is_digit c)) text) (text_number text) (256 ^ n)
