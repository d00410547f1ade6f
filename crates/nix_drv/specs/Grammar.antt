-- Grammars in which each value has one text. They are made of fixed bytes, strings, parts in order
-- and lists. Here are their values, the texts of these, and the beginnings of texts.
use Rattle.std.specs.Prelude.{◌≡◌, ◌≢◌, ℕ, ◌≤◌, ◌⊎◌, List, [], ◌∷◌, ◌++◌, length, flat_map, Option, Some, None}
use Rattle.nix_names.specs.Bytes.{Bytes}
use Rattle.nix_drv.specs.Strings.{spelling, string_text}

-- Whether the elements of a list must rise by their keys. Texts and prefixes do not depend on it.
pub data ListOrder : Type 0 where
  Rising : ListOrder
  Free : ListOrder

-- A grammar: fixed bytes; a string; two parts in order; or a list, in brackets and with commas
-- between its elements.
pub data Grammar : Type 0 where
  Fixed : (bytes : Bytes) → Grammar
  Str : Grammar
  Then : (first second : Grammar) → Grammar
  Many : (order : ListOrder) → (element : Grammar) → Grammar

-- the values that texts of a grammar have
abbrev pub Value : Grammar → Type 0
Value (Fixed bytes) = Unit {0}
Value Str = Bytes
Value (Then a b) = Value a × Value b
Value (Many order g) = List (Value g)

-- the texts of some values, with a comma between each two
abbrev pub separated : {A : Type 0} → (A → Bytes) → List A → Bytes
separated text_of [] = []
separated text_of (v ∷ []) = text_of v
separated text_of (v ∷ w ∷ vs) = text_of v ++ 44 ∷ separated text_of (w ∷ vs)

-- the texts of some values, with a comma after each
abbrev pub each_with_comma : {A : Type 0} → (A → Bytes) → List A → Bytes
each_with_comma text_of [] = []
each_with_comma text_of (v ∷ vs) = text_of v ++ 44 ∷ each_with_comma text_of vs

-- the text of a value
unfoldable pub text : (g : Grammar) → Value g → Bytes
text (Fixed bytes) v = bytes
text Str v = string_text v
text (Then a b) v = text a v.0 ++ text b v.1
text (Many order g) vs = 91 ∷ separated (text g) vs ++ 93 ∷ []

-- some bytes are the text of a value
abbrev pub IsText : (g : Grammar) → Value g → Bytes → Type 0
IsText g v bytes = bytes ≡ text g v

-- the bytes of the whole begin with those of the prefix
abbrev pub Begins : (prefix whole : Bytes) → Type 0
Begins prefix whole = (rest : Bytes) × (whole ≡ prefix ++ rest)

-- a prefix of a string after its first quote: the texts of some bytes, and then a beginning of the
-- text of one more byte or of the last quote
abbrev pub IsPrefixOfBytes : Bytes → Type 0
IsPrefixOfBytes prefix =
    (whole last : Bytes) × (prefix ≡ flat_map spelling whole ++ last)
    × (((byte : ℕ) × Begins last (spelling byte)) ⊎ Begins last (34 ∷ []))

-- a prefix of a list after its first bracket: the texts of some elements with a comma after each,
-- and then a prefix of one more; or the texts of all elements, and then a beginning of the last
-- bracket
abbrev pub IsPrefixOfElements : {A : Type 0} → (A → Bytes) → (Bytes → Type 0) → Bytes → Type 0
IsPrefixOfElements {A} text_of IsElementPrefix prefix =
    ((whole : List A) × (last : Bytes) × (prefix ≡ each_with_comma text_of whole ++ last)
    × IsElementPrefix last)
    ⊎ ((whole : List A) × (last : Bytes) × (prefix ≡ separated text_of whole ++ last)
    × Begins last (93 ∷ []))

-- A prefix: bytes that more bytes can complete to a text of the grammar. Of fixed bytes it is a
-- beginning of them; of two parts it is a prefix of the first, or a text of the first and then a
-- prefix of the second.
unfoldable pub IsTextPrefix : (g : Grammar) → Bytes → Type 0
IsTextPrefix (Fixed bytes) prefix = Begins prefix bytes
IsTextPrefix Str prefix = Begins prefix (34 ∷ [])
    ⊎ ((more : Bytes) × (prefix ≡ 34 ∷ more) × IsPrefixOfBytes more)
IsTextPrefix (Then a b) prefix = IsTextPrefix a prefix
    ⊎ ((v : Value a) × (more : Bytes) × (prefix ≡ text a v ++ more) × IsTextPrefix b more)
IsTextPrefix (Many order g) prefix = Begins prefix (91 ∷ [])
    ⊎ ((more : Bytes) × (prefix ≡ 91 ∷ more) × IsPrefixOfElements (text g) (IsTextPrefix g) more)

-- The longest beginning of the input that is a prefix has this length.
pub record IsLongestPrefix (g : Grammar) (input : Bytes) (offset : ℕ) : Type 0 where
  pub prefix : Bytes
  pub rest : Bytes
  pub parts : input ≡ prefix ++ rest
  pub is_prefix : IsTextPrefix g prefix
  pub is_offset : length prefix ≡ offset
  pub longest : (other more : Bytes) → IsTextPrefix g other → input ≡ other ++ more → length other
      ≤ offset

-- the byte with which each text of the grammar begins; none where its first part is no bytes
abbrev pub first_byte : Grammar → Option ℕ
first_byte (Fixed []) = None
first_byte (Fixed (byte ∷ bytes)) = Some byte
first_byte Str = Some 34
first_byte (Then a b) = first_byte a
first_byte (Many order g) = Some 91

-- there is a byte, and it isn't the bracket that ends a list
abbrev pub IsNoBracket : Option ℕ → Type 0
IsNoBracket None = ⊥
IsNoBracket (Some byte) = byte ≢ 93

-- A grammar is clear: the elements of each list in it begin with a known byte, which isn't the
-- bracket that ends the list.
abbrev pub IsClear : Grammar → Type 0
IsClear (Fixed bytes) = Unit {0}
IsClear Str = Unit {0}
IsClear (Then a b) = IsClear a × IsClear b
IsClear (Many order g) = IsClear g × IsNoBracket (first_byte g)
