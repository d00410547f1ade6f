-- A derivation is told by its value, and so by its text.
use Rattle.std.proofs.Common.{IfOk, Result, ◌≡◌, ℕ, List, [], ◌∷◌, map, Ok, Err, refl, sym, ap, subst, ◌∙◌, arith, inl, inr, rules}
use Rattle.nix_drv.specs.declared.fault.DrvFault.TheVariants.{NoMemory, Syntax, Order, TooLong, TextPathMismatch, NotADrvName, NotSorted, BadReference}
use Rattle.nix_drv.specs.Grammar.{Value}
use Rattle.nix_drv.specs.Order.{IsViolation}
use Rattle.nix_drv.specs.Derivation.{Output, Input, EnvEntry, Drv, output_form, input_form, entry_form, derivation_form, drv_value, IsLooseText}
use Rattle.nix_drv.specs.Outcome.{ReadsBack}
use Rattle.nix_drv.proofs.Texts.{one_value_each}
use Rattle.nix_drv.specs.declared.derivation.Parts.{Parts}
use Rattle.nix_drv.specs.Parts.{drv_of, parts_value}
use Rattle.nix_drv.proofs.Derivations.{derivation_clear, parts_value_is}

abbrev output_back : Value output_form → Output
output_back v = record {
  name = v.1.0;
  path = v.1.1.1.0;
  algo = v.1.1.1.1.1.0;
  hash = v.1.1.1.1.1.1.1.0;
}

abbrev input_back : Value input_form → Input
input_back v = record { path = v.1.0; names = v.1.1.1.0 }

abbrev entry_back : Value entry_form → EnvEntry
entry_back v = record { key = v.1.0; value = v.1.1.1.0 }

abbrev drv_back : Value derivation_form → Drv
drv_back v = record {
  outputs = map output_back v.1.0;
  inputs = map input_back v.1.1.1.0;
  sources = v.1.1.1.1.1.0;
  system = v.1.1.1.1.1.1.1.0;
  builder = v.1.1.1.1.1.1.1.1.1.0;
  args = v.1.1.1.1.1.1.1.1.1.1.1.0;
  env = map entry_back v.1.1.1.1.1.1.1.1.1.1.1.1.1.0;
}

all_back : {A B : Type 0} (to : A → B) (back : B → A) → ((x : A) → back (to x) ≡ x) → (xs : List A)
    → map back (map to xs) ≡ xs
all_back to back same [] = refl
all_back to back same (x ∷ xs) = search (rules, all_back to back same xs)

drv_back_value : (d : Drv) → drv_back (drv_value d) ≡ d
drv_back_value d = search (rules, all_back, output_back, input_back, entry_back)

-- no bytes are the text of two derivations
pub one_drv : (d e : Drv) (text : List ℕ) → IsLooseText d text → IsLooseText e text → d ≡ e
one_drv d e text is also =
    let same : drv_value d ≡ drv_value e = one_value_each _ derivation_clear
    (drv_value d) (drv_value e) text is also in
    sym (drv_back_value d) ∙ ap drv_back same ∙ drv_back_value e

pub reads_back : ReadsBack
reads_back drv text (Ok d) is within reading =
    inl (ap (λ (x : Drv). Ok x) (one_drv d _ _ reading.1.is_text is.is_text))
reads_back drv text (Err NoMemory) is within reading = inr refl
reads_back drv text (Err (Syntax offset)) is within reading = search rules
reads_back drv text (Err (Order offset)) is within reading =
    let same : reading.1.0 ≡ drv = one_drv _ _ _ reading.1.1 is.is_text in
    absurd (is.in_order offset
    (subst (λ (d : Drv). IsViolation _ 0 (drv_value d) _) same
    reading.1.2.is_violation))
reads_back drv text (Err TooLong) is within reading = absurd (omega arith)
reads_back drv text (Err NotSorted) is within reading = absurd reading
reads_back drv text (Err (TextPathMismatch expected)) is within reading = absurd reading
reads_back drv text (Err NotADrvName) is within reading = absurd reading
reads_back drv text (Err (BadReference spelled)) is within reading = absurd reading

-- parts of one value are one derivation
pub same_parts : (p q : Parts) → parts_value p ≡ parts_value q → drv_of p ≡ drv_of q
same_parts p q e =
    let values : drv_value (drv_of p) ≡ drv_value (drv_of q) = sym (parts_value_is p) ∙ e
    ∙ parts_value_is q in
    sym (drv_back_value _) ∙ ap drv_back values ∙ drv_back_value _

-- a copy of parts is the same derivation
pub copied_parts : {E : Type 0} (r : Result Parts E) (p : Parts)
    → IfOk r (λ copy. parts_value copy ≡ parts_value p) → IfOk r (λ copy. drv_of copy ≡ drv_of p)
copied_parts (Ok copy) p same = same_parts copy p same
copied_parts (Err e) p same = tt
