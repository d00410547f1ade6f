-- The text of `.attrs.sh` (Nix 2.8, `writeStructuredAttrsShell`; Nix manual, "Advanced Attributes",
-- `__structuredAttrs`).
use Rattle.std.specs.Prelude.{◌==◌, ◌&&◌, ◌||◌, ◌-◌, ◌%◌, ◌^◌, ℕ, ℤ, pos, negsuc, List, [], ◌∷◌, ◌++◌, Bool, true, false, Float, Option, Some, None, codes, decimal, flat_map, if◌then◌else◌, nat_le, nat_lt, option_and_then, option_map, unsigned_abs}
use Rattle.std.specs.Float.{binary32, ceil, float_to_signed, round_to_format}
use Rattle.std.specs.Float.Ieee.{eq}
use Rattle.std.specs.Fmt.{signed_decimal}
use Rattle.std.specs.Int.{w64}
use Rattle.std.specs.List.{list_all}
use Rattle.std.specs.Ordering.{nat_cmp}
use Rattle.structured_attrs.specs.declared.shell.Variable.{Variable}
use Rattle.structured_attrs.specs.declared.shell.Variable.TheVariants.{Plain, Indexed, Associative}
use Rattle.serde_json.specs.Data.{Num, unsigned, negative, float, Data, null, boolean, number, string, array, object, Items, no_items, item, Members, no_members, member}

-- ---- names and strings

-- a letter or an underscore
abbrev pub is_name_start : ℕ → Bool
is_name_start b = (nat_le 65 b && nat_le b 90) || (nat_le 97 b && nat_le b 122) || (b == 95)

-- a letter, an underscore or a digit
abbrev pub is_name_byte : ℕ → Bool
is_name_byte b = is_name_start b || (nat_le 48 b && nat_le b 57)

-- a key that bash takes for a variable's name
abbrev pub is_shell_name : List ℕ → Bool
is_shell_name [] = false
is_shell_name (b ∷ bs) = is_name_start b && list_all is_name_byte bs

-- what stands for a byte between quotes: for a quote the end of the string, an escaped quote and
-- the beginning of a string
abbrev pub quoted_byte : ℕ → List ℕ
quoted_byte b = if b == 39 then codes "'\\''" else b ∷ []

-- a string between quotes
abbrev pub shell_quoted : List ℕ → List ℕ
shell_quoted text = 39 ∷ (flat_map quoted_byte text ++ 39 ∷ [])

-- ---- numbers

-- the integer of 32 bits with a sign that has these 32 bits
abbrev pub int32_text : ℕ → List ℕ
int32_text bits = if nat_lt bits (2 ^ 31) then decimal bits else 45 ∷ decimal (2 ^ 32 - bits)

-- a double, rounded to 32 bits, has no fraction (C++, `std::ceil(f) == f` of a `float`)
abbrev pub is_whole_float : Float → Bool
is_whole_float x = eq (ceil binary32 (round_to_format binary32 x)) (round_to_format binary32 x)

-- an integer that fits 32 bits with a sign, or the least such one (C, a conversion to `int` on
-- x86-64)
abbrev pub fitted_text : ℤ → List ℕ
fitted_text (pos n) = if nat_lt n (2 ^ 31) then decimal n else codes "-2147483648"
fitted_text (negsuc n) =
    if nat_lt n (2 ^ 31) then signed_decimal (negsuc n) else codes "-2147483648"

-- the word of a number: an integer cut to 32 bits, and a double that is whole without its fraction
abbrev pub number_word : Num → Option (List ℕ)
number_word (unsigned n) = Some (int32_text (n % 2 ^ 32))
number_word (negative z) = Some (int32_text ((2 ^ 32 - unsigned_abs z % 2 ^ 32) % 2 ^ 32))
number_word (float x) =
    if is_whole_float x then Some (fitted_text (float_to_signed w64 x)) else None

-- ---- values

-- the word of a value that is simple, which no array, no object and no number with a fraction is
abbrev pub word_of : Data → Option (List ℕ)
word_of null = Some (codes "''")
word_of (boolean true) = Some (codes "1")
word_of (boolean false) = Some []
word_of (number n) = number_word n
word_of (string text) = Some (shell_quoted text)
word_of (array ds) = None
word_of (object ms) = None

-- a word with a space after it
abbrev pub spaced : List ℕ → List ℕ
spaced word = word ++ (32 ∷ [])

-- the words of an array's items, each with a space after it, where all are simple
abbrev pub words_of : Items → Option (List ℕ)
words_of no_items = Some []
words_of (item d ds) =
    option_and_then (λ word. option_map (λ rest. spaced word ++ rest) (words_of ds)) (word_of d)

-- a key between brackets, and a word
abbrev pub pair_text : List ℕ → List ℕ → List ℕ
pair_text key word = 91 ∷ (shell_quoted key ++ (codes "]=" ++ spaced word))

-- the keys and words of an object's members, each with a space after it, where all are simple
abbrev pub pairs_of : Members → Option (List ℕ)
pairs_of no_members = Some []
pairs_of (member key d ms) =
    option_and_then (λ word. option_map (λ rest. pair_text key word ++ rest) (pairs_of ms)) (word_of d)

-- ---- lines

-- what stands before the name of a variable, between name and value, and after the value
abbrev pub head_of : Variable → List ℕ
head_of Plain = codes "declare "
head_of Indexed = codes "declare -a "
head_of Associative = codes "declare -A "

abbrev pub before_of : Variable → List ℕ
before_of Plain = codes "="
before_of Indexed = codes "=("
before_of Associative = codes "=("

abbrev pub after_of : Variable → List ℕ
after_of Plain = codes "\n"
after_of Indexed = codes ")\n"
after_of Associative = codes ")\n"

-- the line that declares a variable
abbrev pub variable_line : Variable → (key value : List ℕ) → List ℕ
variable_line kind key value =
    head_of kind ++ (key ++ (before_of kind ++ (value ++ after_of kind)))

-- that line, where there is a value
abbrev pub value_line : Variable → (key : List ℕ) → Option (List ℕ) → List ℕ
value_line kind key None = []
value_line kind key (Some value) = variable_line kind key value

-- the line of a key that is a name, by the kind of its value: an array is an indexed one of the
-- shell's, an object an associative one
abbrev pub named_line : List ℕ → Data → List ℕ
named_line key null = value_line Plain key (word_of null)
named_line key (boolean b) = value_line Plain key (word_of (boolean b))
named_line key (number n) = value_line Plain key (word_of (number n))
named_line key (string text) = value_line Plain key (word_of (string text))
named_line key (array ds) = value_line Indexed key (words_of ds)
named_line key (object ms) = value_line Associative key (pairs_of ms)

-- the line of a member: none where its key is no name of a shell's variable
abbrev pub line_of : List ℕ → Data → List ℕ
line_of key d = if is_shell_name key then named_line key d else []

-- the lines of the members, in their order
abbrev pub shell_text : Members → List ℕ
shell_text no_members = []
shell_text (member key d ms) = line_of key d ++ shell_text ms
