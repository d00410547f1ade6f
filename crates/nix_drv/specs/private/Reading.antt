-- Reading bytes from the left by a grammar. A reading is the value and the bytes after it, or,
-- where there is no value, the number of the bytes after the longest prefix.
use Rattle.std.specs.Prelude.{ℕ, zero, suc, Bool, true, false, ◌==◌, if◌then◌else◌, is_some, List, [], ◌∷◌, ◌++◌, length, Option, Some, None, Result, Ok, Err}
use Rattle.nix_names.specs.Bytes.{Bytes}
use Rattle.nix_drv.specs.Strings.{is_plain, unescaped}
use Rattle.nix_drv.specs.Grammar.{Grammar, Value, Fixed, Str, Then, Many}

-- a reading, and then another one that takes its result; where the first fails, so do both
infixl 10 ◌>>=◌
abbrev pub ◌>>=◌ : {A B : Type 0} → Result A ℕ → (A → Result B ℕ) → Result B ℕ
(Ok x) >>= f = f x
(Err left) >>= f = Err left

-- reads fixed bytes
abbrev pub fixed_at : (bytes s : Bytes) → Result (Unit {0} × Bytes) ℕ
fixed_at [] s = Ok (tt, s)
fixed_at (b ∷ bytes) [] = Err 0
fixed_at (b ∷ bytes) (c ∷ s) = if b == c then fixed_at bytes s else Err (suc (length s))

-- a reading of a list, with more values in front of those that were read
abbrev pub before : {A : Type 0} → List A → Result (List A × Bytes) ℕ → Result (List A × Bytes) ℕ
before prefix reading = reading >>= λ x. Ok (prefix ++ x.0, x.1)

-- Reads the bytes of a string up to its last quote. Where `escaped` holds, a backslash was read,
-- and the letter of an escape comes first.
unfoldable pub bytes_at : (escaped : Bool) → Bytes → Result (Bytes × Bytes) ℕ
bytes_at escaped [] = Err 0
bytes_at true (b ∷ s) =
    elim (unescaped b)
    [ Some byte ↦ before (byte ∷ []) (bytes_at false s) | None ↦ Err (suc (length s)) ]
bytes_at false (b ∷ s) =
    if b == 34 then Ok ([], s) else
    if b == 92 then bytes_at true s else
    if is_plain b then before (b ∷ []) (bytes_at false s) else Err (suc (length s))

-- reads the letter of an escape, after the backslash, and gives the byte whose escape it is
abbrev pub escape_at : Bytes → Result (Option ℕ × Bytes) ℕ
escape_at [] = Err 0
escape_at (letter ∷ s) = if is_some (unescaped letter) then Ok (unescaped letter, s)
    else Err (suc (length s))

-- reads one byte of a string, or no byte at the last quote
abbrev pub byte_at : Bytes → Result (Option ℕ × Bytes) ℕ
byte_at [] = Err 0
byte_at (b ∷ s) =
    if b == 34 then Ok (None, s) else
    if b == 92 then escape_at s else
    if is_plain b then Ok (Some b, s) else Err (suc (length s))

-- reads what follows element v of a list: a comma and the other elements, or the last bracket
abbrev pub next_at : {A : Type 0} → (Bytes → Result (List A × Bytes) ℕ) → A → Bytes
    → Result (List A × Bytes) ℕ
next_at others v [] = Err 0
next_at others v (b ∷ s) =
    if b == 44 then before (v ∷ []) (others s) else
    if b == 93 then Ok (v ∷ [], s) else Err (suc (length s))

-- reads one or more elements of a list, at most n of them, and the last bracket
unfoldable pub elements_at : {A : Type 0} → (Bytes → Result (A × Bytes) ℕ) → (n : ℕ) → Bytes
    → Result (List A × Bytes) ℕ
elements_at one zero s = Err (length s)
elements_at one (suc n) s = one s >>= λ x. next_at (elements_at one n) x.0 x.1

-- Reads one or more elements of a list and the last bracket. Each element but the last takes a
-- comma, so n bytes hold at most n + 1 elements.
abbrev pub elements_of : {A : Type 0} → (Bytes → Result (A × Bytes) ℕ) → Bytes
    → Result (List A × Bytes) ℕ
elements_of one s = elements_at one (suc (length s)) s

-- reads a list after its first bracket
abbrev pub list_at : {A : Type 0} → (Bytes → Result (A × Bytes) ℕ) → Bytes
    → Result (List A × Bytes) ℕ
list_at one [] = elements_of one []
list_at one (b ∷ s) = if b == 93 then Ok ([], s) else elements_of one (b ∷ s)

-- reads a value of a grammar
unfoldable pub read : (g : Grammar) → Bytes → Result (Value g × Bytes) ℕ
read (Fixed bytes) s = fixed_at bytes s
read Str s = fixed_at (34 ∷ []) s >>= λ x. bytes_at false x.1
read (Then a b) s = read a s >>= λ x. read b x.1 >>= λ y. Ok ((x.0, y.0), y.1)
read (Many order g) s = fixed_at (91 ∷ []) s >>= λ x. list_at (read g) x.1

-- the number of the bytes after the value that was read, or after the longest prefix
abbrev pub left_of : {A : Type 0} → Result (A × Bytes) ℕ → ℕ
left_of (Ok x) = length x.1
left_of (Err left) = left
