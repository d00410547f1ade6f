-- The order rules: in a list that must rise, each element's key is greater by bytes than the key of
-- the element before it.
use Rattle.std.specs.Prelude.{◌≡◌, ℕ, ◌+◌, ◌≤◌, ◌⊎◌, Bool, true, false, not, ◌||◌, if◌then◌else◌, List, [], ◌∷◌, length, Option, Some, None, map}
use Rattle.std.specs.Cmp.Lexicographic.{slice_cmp}
use Rattle.std.specs.Ordering.{nat_cmp, is_lt}
use Rattle.nix_names.specs.Bytes.{Bytes}
use Rattle.nix_names.specs.Rising.{IsRising}
use Rattle.nix_drv.specs.Grammar.{ListOrder, Rising, Free, Grammar, Fixed, Str, Then, Many, Value, text}

-- whether the values of a grammar have a key: whether a string is in them outside lists
abbrev pub has_key : Grammar → Bool
has_key (Fixed bytes) = false
has_key Str = true
has_key (Then a b) = has_key a || has_key b
has_key (Many order g) = false

-- an element's key: its first string, or no bytes where it has none
abbrev pub key : (g : Grammar) → Value g → Bytes
key (Fixed bytes) v = []
key Str v = v
key (Then a b) v = if has_key a then key a v.0 else key b v.1
key (Many order g) vs = []

-- whether some bytes come before others, compared byte by byte
abbrev pub is_less : (a b : Bytes) → Bool
is_less a b = is_lt (slice_cmp nat_cmp a b)

-- whether an element with key k breaks the order of its list, in which the element before it, if
-- there is one, has the key `before`
abbrev pub breaks : ListOrder → (before : Option Bytes) → (k : Bytes) → Bool
breaks Free before k = false
breaks Rising None k = false
breaks Rising (Some before) k = not (is_less before k)

-- The offset is that of a violation among some elements of a list: of one that breaks the order, or
-- of a violation within one. The text of the first of them begins at p, and the element before it,
-- if there is one, has the key `before`.
abbrev pub IsViolationAmong : {A : Type 0} → ListOrder → (key_of text_of : A → Bytes)
    → (ℕ → A → ℕ → Type 0) → (before : Option Bytes) → (p : ℕ) → List A → (offset : ℕ) → Type 0
IsViolationAmong order key_of text_of Within before p [] offset = ⊥
IsViolationAmong order key_of text_of Within before p (v ∷ vs) offset =
    ((breaks order before (key_of v) ≡ true) × (offset ≡ p))
    ⊎ Within p v offset
    ⊎ IsViolationAmong order key_of text_of Within (Some (key_of v)) (p + length (text_of v) + 1) vs
    offset

-- The offset is that of a violation in the text of a value, which begins at p: of an element that
-- breaks the order of its list.
unfoldable pub IsViolation : (g : Grammar) → (p : ℕ) → Value g → (offset : ℕ) → Type 0
IsViolation (Fixed bytes) p v offset = ⊥
IsViolation Str p v offset = ⊥
IsViolation (Then a b) p v offset = IsViolation a p v.0 offset
    ⊎ IsViolation b (p + length (text a v.0)) v.1 offset
IsViolation (Many order g) p vs offset =
    IsViolationAmong order (key g) (text g) (IsViolation g) None
    (p + 1) vs offset

-- the value keeps the order rules
abbrev pub InOrder : (g : Grammar) → Value g → Type 0
InOrder g v = (offset : ℕ) → IsViolation g 0 v offset → ⊥

-- The offset is that of the first violation in the text of a value.
pub record IsFirstViolation (g : Grammar) (v : Value g) (offset : ℕ) : Type 0 where
  pub is_violation : IsViolation g 0 v offset
  pub least : (other : ℕ) → IsViolation g 0 v other → offset ≤ other

-- the keys of a list's elements rise, where the list must rise
abbrev pub MayBeKeys : ListOrder → List Bytes → Type 0
MayBeKeys Free ks = Unit {0}
MayBeKeys Rising ks = IsRising ks

-- each element of a list has a property
abbrev pub Each : {A : Type 0} → (A → Type 0) → List A → Type 0
Each P [] = Unit {0}
Each P (v ∷ vs) = P v × Each P vs

-- in a value, the keys of each list that must rise do so, also in the lists within elements
unfoldable pub KeysRise : (g : Grammar) → Value g → Type 0
KeysRise (Fixed bytes) v = Unit {0}
KeysRise Str v = Unit {0}
KeysRise (Then a b) v = KeysRise a v.0 × KeysRise b v.1
KeysRise (Many order g) vs = MayBeKeys order (map (key g) vs) × Each (KeysRise g) vs
