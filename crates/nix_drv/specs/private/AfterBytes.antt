-- Reading fixed bytes, and after them a string, two strings or a list.
use Rattle.std.specs.Prelude.{ℕ, List, [], ◌∷◌, Result, Ok}
use Rattle.nix_names.specs.Bytes.{Bytes}
use Rattle.nix_drv.specs.Grammar.{Str}
use Rattle.nix_drv.specs.private.Reading.{◌>>=◌, fixed_at, read}
use Rattle.nix_drv.specs.private.Listings.{list_read}

-- reads a string after fixed bytes
unfoldable pub string_after : (bytes s : Bytes) → Result (Bytes × Bytes) ℕ
string_after bytes s = fixed_at bytes s >>= λ x. read Str x.1

-- reads two strings, with a comma between them, after fixed bytes
unfoldable pub strings_after : (bytes s : Bytes) → Result ((Bytes × Bytes) × Bytes) ℕ
strings_after bytes s = string_after bytes s >>= λ x. string_after (44 ∷ []) x.1 >>= λ y.
    Ok ((x.0, y.0), y.1)

-- reads a list after fixed bytes
unfoldable pub list_after : {A : Type 0} → (bytes : Bytes) → (one : Bytes → Result (A × Bytes) ℕ)
    → (s : Bytes) → Result (List A × Bytes) ℕ
list_after bytes one s = fixed_at bytes s >>= λ x. list_read one x.1
