-- The language of derivations is clear; parts as a value of it.
use Rattle.std.proofs.Common.{◌≡◌, ℕ, ◌<◌, ◌≤◌, ◌^◌, List, [], ◌∷◌, length, map, Ok, Err, refl, sym, ap, subst, rules, arith}
use Rattle.nix_drv.specs.Grammar.{text, IsClear}
use Rattle.nix_drv.specs.Order.{InOrder, IsFirstViolation}
use Rattle.nix_drv.specs.private.Reading.{read}
use Rattle.nix_drv.specs.private.Passing.{pass}
use Rattle.nix_drv.specs.Derivation.{Drv, derivation_form, drv_value, output_value, input_value, entry_value, IsLooseText, IsDrvText}
use Rattle.nix_drv.specs.declared.derivation.Input.{Input as InputStruct}
use Rattle.nix_drv.specs.declared.derivation.Output.{Output as OutputStruct}
use Rattle.nix_drv.specs.declared.derivation.Parts.{Parts}
use Rattle.nix_drv.specs.Parts.{bytes_of, output_of, input_of, entry_of, drv_of, parts_build, parts_value}
use Rattle.nix_drv.proofs.Exact.{read_whole}
use Rattle.nix_drv.proofs.Passing.{pass_in_order, pass_out_of_order, pass_first}

pub derivation_clear : IsClear derivation_form
derivation_clear = search rules

map_twice : {A B C : Type 0} (f : B → C) (g : A → B) (xs : List A) → map (λ (x : A). f (g x)) xs
    ≡ map f (map g xs)
map_twice f g [] = refl
map_twice f g (x ∷ xs) = search (rules, map_twice f g xs)

pub parts_value_is : (p : Parts) → parts_value p ≡ drv_value (drv_of p)
parts_value_is p = rw (
  map_twice output_value output_of _,
  map_twice input_value input_of _,
  map_twice entry_value entry_of _,
) refl

-- parts with other input derivations as a value of the language
pub with_inputs_value : (p : Parts) (inputs : List InputStruct)
    → drv_value (record (drv_of p) { inputs = map input_of inputs })
    ≡ (
      tt,
      (
        map (λ (o : OutputStruct). output_value (output_of o)) p.outputs.items,
        (
          tt,
          (
            map (λ (i : InputStruct). input_value (input_of i)) inputs,
            (tt, (map bytes_of p.sources.items, (tt, parts_build p))),
          ),
        ),
      ),
    )
with_inputs_value p inputs =
    sym (rw (
      map_twice output_value output_of _,
      map_twice input_value input_of _,
      map_twice entry_value entry_of _,
    ) refl)

pub ordered : (p : Parts) (end : ℕ) → pass derivation_form 0 (parts_value p) ≡ Ok end
    → InOrder derivation_form (drv_value (drv_of p))
ordered p end e = pass_in_order _ _ _ (rw (parts_value_is p) at e)

pub disordered : (p : Parts) (offset : ℕ) → pass derivation_form 0 (parts_value p) ≡ Err offset
    → pass derivation_form 0 (drv_value (drv_of p)) ≡ Err offset
disordered p offset e = rw (parts_value_is p) at e

pub not_in_order : (parts : Drv) (offset : ℕ) → pass derivation_form 0 (drv_value parts)
    ≡ Err offset
    → InOrder derivation_form (drv_value parts) → ⊥
not_in_order parts offset = search (rules, pass_out_of_order)

whole_text : (p : Parts) (s rest : List ℕ) → read derivation_form s ≡ Ok (parts_value p, rest)
    → length rest ≡ 0 → IsLooseText (drv_of p) s
whole_text p s rest e none = search (rules, read_whole, derivation_clear, parts_value_is)

-- bytes that were read whole, and whose parts are in order
pub read_in_order : (drv : Drv) (p : Parts) (s rest : List ℕ) → read derivation_form s
    ≡ Ok (parts_value p, rest) → length rest ≡ 0 → drv ≡ drv_of p
    → InOrder derivation_form (drv_value (drv_of p)) → IsDrvText drv s
read_in_order drv p s rest e none is in_order =
    subst (λ (d : Drv). IsDrvText d s) (sym is)
    (record { is_text = whole_text p s _ e none; in_order = in_order })

-- bytes that were read whole, and whose parts are not
pub read_first : (p : Parts) (s rest : List ℕ) (offset : ℕ) → read derivation_form s
    ≡ Ok (parts_value p, rest) → length rest ≡ 0 → length s ≤ 4194304
    → pass derivation_form 0 (drv_value (drv_of p)) ≡ Err offset
    → (drv : Drv) × IsLooseText drv s × IsFirstViolation derivation_form (drv_value drv) offset
read_first p s rest offset e none within passes =
    let is : IsLooseText (drv_of p) s = whole_text p s _ e none in
    let small : length (text _ (drv_value (drv_of p)))
    < 2 ^ 64 = omega (arith, ap length is) in
    (drv_of p, is, pass_first _ _ _ small passes)
