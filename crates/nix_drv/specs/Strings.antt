-- The strings of store derivations (Dolstra, "The Purely Functional Software Deployment Model",
-- 2006, section 5.4; the escapes are those of Nix's ATerm form).
use Rattle.std.specs.Prelude.{ℕ, Bool, not, is_some, Option, Some, None, ◌==◌, List, [], ◌∷◌, ◌++◌, flat_map, map}
use Rattle.std.specs.Map.{lookup}
use Rattle.nix_names.specs.Bytes.{Bytes}

-- the bytes that a string writes by an escape, each with the letter that follows the backslash: a
-- quote, a backslash, a newline, a return and a tab
abbrev pub escapes : List (ℕ × ℕ)
escapes = (34, 34) ∷ (92, 92) ∷ (10, 110) ∷ (13, 114) ∷ (9, 116) ∷ []

-- the letter of a byte's escape, if the byte has an escape
abbrev pub letter : ℕ → Option ℕ
letter byte = lookup (λ escaped. byte == escaped) escapes

-- the byte whose escape has this letter, if there is one
abbrev pub unescaped : ℕ → Option ℕ
unescaped letter = lookup (λ own. letter == own) (map (λ escape. (escape.1, escape.0)) escapes)

-- whether a string writes a byte without an escape
abbrev pub is_plain : ℕ → Bool
is_plain byte = not (is_some (letter byte))

-- the text of a byte: a backslash and the letter of its escape, or the byte where it has no escape
abbrev pub spelled : (byte : ℕ) → (letter : Option ℕ) → Bytes
spelled byte (Some letter) = 92 ∷ letter ∷ []
spelled byte None = byte ∷ []

-- the text of a byte within a string
unfoldable pub spelling : ℕ → Bytes
spelling byte = spelled byte (letter byte)

-- a string's text: a quote, the texts of its bytes in order, a quote
abbrev pub string_text : Bytes → Bytes
string_text bytes = 34 ∷ flat_map spelling bytes ++ 34 ∷ []
