-- Lists of any elements: their texts, how they are read, and the program's word for their order.
use Rattle.std.specs.Prelude.{ℕ, suc, ◌==◌, if◌then◌else◌, List, [], ◌∷◌, ◌++◌, length, Result, Ok, Err}
use Rattle.nix_names.specs.Bytes.{Bytes}
use Rattle.nix_drv.specs.declared.element.Next.{Next}
use Rattle.nix_drv.specs.declared.element.Next.TheVariants.{Comma, End}
use Rattle.nix_drv.specs.declared.element.KeyOrder.{KeyOrder}
use Rattle.nix_drv.specs.declared.element.KeyOrder.TheVariants as order
use Rattle.nix_drv.specs.Grammar.{ListOrder, Rising, Free, separated}
use Rattle.nix_drv.specs.private.Reading.{◌>>=◌, fixed_at, list_at}

-- the text of a list
abbrev pub list_text : {A : Type 0} → (A → Bytes) → List A → Bytes
list_text text_of vs = 91 ∷ separated text_of vs ++ 93 ∷ []

-- the texts of some elements, with a comma before each
abbrev pub others_text : {A : Type 0} → (A → Bytes) → List A → Bytes
others_text text_of [] = []
others_text text_of (v ∷ vs) = 44 ∷ text_of v ++ others_text text_of vs

-- reads a list with its brackets
abbrev pub list_read : {A : Type 0} → (Bytes → Result (A × Bytes) ℕ) → Bytes
    → Result (List A × Bytes) ℕ
list_read one s = fixed_at (91 ∷ []) s >>= λ x. list_at one x.1

-- reads a comma, or the bracket that ends a list
abbrev pub sign_at : Bytes → Result (Next × Bytes) ℕ
sign_at [] = Err 0
sign_at (b ∷ s) = if b == 44 then Ok (Comma, s) else if b == 93 then Ok (End, s)
    else Err (suc (length s))

-- the order of a list, which the program has in a type of its own
abbrev pub order_of : KeyOrder → ListOrder
order_of order.Rising = Rising
order_of order.Free = Free
