-- Passing over a value whose text begins at an offset. The result is the offset after the text, or
-- the offset of the first element that breaks the order of its list. An offset of 2^64 or more
-- counts as 2^64 - 1, the greatest number of the machine.
use Rattle.std.specs.Prelude.{ℕ, ◌+◌, ◌-◌, ◌^◌, min, if◌then◌else◌, List, [], ◌∷◌, length, Option, Some, None, Result, Ok, Err}
use Rattle.nix_names.specs.Bytes.{Bytes}
use Rattle.nix_drv.specs.Strings.{string_text}
use Rattle.nix_drv.specs.Grammar.{ListOrder, Grammar, Fixed, Str, Then, Many, Value}
use Rattle.nix_drv.specs.Order.{key, breaks}
use Rattle.nix_drv.specs.private.Reading.{◌>>=◌}

-- the offset that is `count` bytes after an offset
abbrev pub offset_after : (offset count : ℕ) → ℕ
offset_after offset count = min (offset + count) (2 ^ 64 - 1)

-- passes over elements with a comma after each, the first at p; the element before them, if there
-- is one, has the key `before`
abbrev pub pass_among : {A : Type 0} → ListOrder → (A → Bytes) → (ℕ → A → Result ℕ ℕ)
    → (before : Option Bytes) → (p : ℕ) → List A → Result ℕ ℕ
pass_among order key_of one before p [] = Ok p
pass_among order key_of one before p (v ∷ vs) =
    if breaks order before (key_of v) then Err p
    else one p v >>= λ q. pass_among order key_of one (Some (key_of v)) (offset_after q 1) vs

-- passes over a list at p; the bracket after its last element counts as a comma
abbrev pub pass_list : {A : Type 0} → ListOrder → (A → Bytes) → (ℕ → A → Result ℕ ℕ) → (p : ℕ)
    → List A → Result ℕ ℕ
pass_list order key_of one p [] = Ok (offset_after p 2)
pass_list order key_of one p (v ∷ vs) = pass_among order key_of one None (offset_after p 1) (v ∷ vs)

-- passes over a value of a grammar, whose text begins at p
unfoldable pub pass : (g : Grammar) → (p : ℕ) → Value g → Result ℕ ℕ
pass (Fixed bytes) p v = Ok (offset_after p (length bytes))
pass Str p v = Ok (offset_after p (length (string_text v)))
pass (Then a b) p v = pass a p v.0 >>= λ q. pass b q v.1
pass (Many order g) p vs = pass_list order (key g) (pass g) p vs
