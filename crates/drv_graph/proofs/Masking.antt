-- A derivation without the paths of its outputs, and inputs with hashes.
use Rattle.std.proofs.Common.{◌≡◌, ◌≤◌, ℕ, zero, suc, Bool, true, false, List, [], ◌∷◌, length, map, Option, Some, None, inl, inr, refl, sym, ap, subst, ◌∙◌, arith, rules}
use Rattle.std.specs.Prelude.{Contains, IfOk, Result, Ok, Err, if◌then◌else◌}
use Rattle.std.specs.Cmp.Lexicographic.{bytes_decides}
use Rattle.std.specs.List.{list_any, slice_get}
use Rattle.std.specs.Prelude.{is_some, ◌||◌}
use Rattle.std.proofs.lemmas.Bool.{cases_Bool, false≢true}
use Rattle.hex.specs.Hex.{encode_lower}
use Rattle.nix_names.specs.Names.{same_bytes}
use Rattle.std.specs.Prelude.{Vec}
use Rattle.std.specs.declared.alloc.AllocError.{AllocError}
use Rattle.std.specs.declared.alloc.Global.{Global}
use Rattle.nix_drv.specs.Derivation.{Drv, EnvEntry, Input, IsLooseText, derivation_form, drv_value}
use Rattle.nix_drv.specs.Grammar.{text}
use Rattle.nix_drv.specs.Parts.{bytes_of, drv_of, entry_of, input_of, output_of}
use Rattle.nix_drv.specs.declared.derivation.Input.{Input as InputStruct}
use Rattle.nix_drv.specs.declared.derivation.EnvEntry.{EnvEntry as EntryStruct}
use Rattle.nix_drv.specs.declared.derivation.Output.{Output as OutputStruct}
use Rattle.nix_drv.specs.declared.derivation.Parts.{Parts}
use Rattle.drv_graph.specs.private.Uniting.{masked_output}
use Rattle.std.specs.Vec.{with_items}
use Rattle.std.proofs.lemmas.List.{with_items_is}
use Rattle.nix_drv.specs.Indices.{IsIndexOfKey}
use Rattle.drv_graph.specs.Modulo.{IsModuloText, IsUnited, masked, masked_entry, names_of, replaced, with_inputs}
use Rattle.nix_names.proofs.Lists.{Contains-first, Contains-later}

-- ---- entries under names

any_here : (key : List ℕ) (names : List (List ℕ)) (index : ℕ) → slice_get names index ≡ Some key
    → list_any (same_bytes key) names ≡ true
any_here key [] index e = absurd cc
any_here key (x ∷ xs) zero e = search rules
any_here key (x ∷ xs) (suc index) e = later (same_bytes key x) (any_here key xs index e)
  where
    later : (b : Bool) → list_any (same_bytes key) xs ≡ true → (b || list_any (same_bytes key) xs)
        ≡ true
    later true e = refl
    later false e = e

any_none : (key : List ℕ) (names : List (List ℕ)) → (Contains names key → ⊥)
    → list_any (same_bytes key) names ≡ false
any_none key [] none = refl
any_none key (x ∷ xs) none =
    let unlike : same_bytes key x ≡ false =
    elim (cases_Bool (same_bytes key x)) [
      | inl same ↦ absurd
          (none (subst (λ (y : List ℕ). Contains (x ∷ xs) y) (sym ((bytes_decides key x).0 same))
          (Contains-first x _)))
      | inr other ↦ other
    ] in
    ap (λ (b : Bool). b || list_any (same_bytes key) xs) unlike
    ∙ any_none key xs (λ has. none (Contains-later x xs key has))

-- an entry under a name has no value
pub masked_under : (names : List (List ℕ)) (entry : EnvEntry) (index : ℕ) → slice_get names index
    ≡ Some entry.key → record { key = entry.key; value = [] } ≡ masked_entry names entry
masked_under names entry index at = search (rules, any_here)

-- another is as it was
pub masked_other : (names : List (List ℕ)) (entry : EnvEntry) → (Contains names entry.key → ⊥)
    → entry ≡ masked_entry names entry
masked_other names entry none = search (rules, any_none)

-- an entry under a name has no value, by what was found
pub masked_found : (names : List (List ℕ)) (entry : EnvEntry) (key : List ℕ) (found : Option ℕ)
    → IsIndexOfKey names key found → key ≡ entry.key → is_some found ≡ true
    → record { key = entry.key; value = [] } ≡ masked_entry names entry
masked_found names entry key None index same is = absurd (false≢true is)
masked_found names entry key (Some index) at same is = search (rules, masked_under)

pub masked_missing : (names : List (List ℕ)) (entry : EnvEntry) (key : List ℕ) (found : Option ℕ)
    → IsIndexOfKey names key found → key ≡ entry.key → is_some found ≡ false
    → entry ≡ masked_entry names entry
masked_missing names entry key None none same is = search (rules, masked_other)
masked_missing names entry key (Some index) at same is = absurd (false≢true (sym is))

-- ---- inputs with hashes

pub replaced_at : (inputs : List Input) (hashes : List (List ℕ)) (i : ℕ) (input : Input)
    (hash : List ℕ) → slice_get inputs i ≡ Some input → slice_get hashes i ≡ Some hash
    → slice_get (replaced inputs hashes) i ≡ Some
    (record { path = encode_lower hash; names = input.names })
replaced_at [] hashes i input hash e h = absurd cc
replaced_at (x ∷ xs) [] i input hash e h = absurd cc
replaced_at (x ∷ xs) (y ∷ ys) zero input hash e h = search rules
replaced_at (x ∷ xs) (y ∷ ys) (suc i) input hash e h = replaced_at xs _ i _ _ e h

pub replaced_length : (inputs : List Input) (hashes : List (List ℕ))
    → length (replaced inputs hashes) ≤ length inputs
replaced_length [] hashes = omega arith
replaced_length (x ∷ xs) [] = omega arith
replaced_length (x ∷ xs) (y ∷ ys) = let h = replaced_length xs ys in omega arith

pub input_parts : (x : InputStruct) (path : List ℕ) (names : List (List ℕ)) → x.path.items ≡ path
    → map bytes_of x.names.items ≡ names → input_of x ≡ record { path = path; names = names }
input_parts x path names same_path same_names = search rules

-- ---- texts

pub text_from : (drv whole : Drv) (hashes : List (List ℕ)) (mask : Bool) (inputs : List Input)
    (answer : Result (Vec ℕ Global) AllocError) → IsUnited (replaced drv.inputs hashes) inputs
    → whole ≡ (if mask then masked drv else drv)
    → IfOk answer (λ text. IsLooseText (with_inputs whole inputs) text.items)
    → IfOk answer (λ text. IsModuloText drv hashes mask text.items)
text_from drv whole hashes mask inputs (Err refused) united same is = tt
text_from drv whole hashes mask inputs (Ok bytes) united same is = record {
  inputs = inputs;
  united = united;
  is_text = is ∙ ap (λ (d : Drv). text derivation_form (drv_value (with_inputs d inputs))) same;
}

-- ---- parts

pub masked_parts : (parts : Parts) (drv : Drv) (outputs : List OutputStruct)
    (env : List EntryStruct) → drv_of parts ≡ drv → length outputs ≡ parts.outputs.len → length env
    ≡ parts.env.len
    → map output_of outputs ≡ map masked_output (map output_of parts.outputs.items)
    → map entry_of env ≡ map (masked_entry (names_of drv.outputs)) (map entry_of parts.env.items)
    → drv_of (record parts {
      outputs = with_items parts.outputs outputs;
      env = with_items parts.env env;
    }) ≡ masked drv
masked_parts parts drv outputs env view long_outputs long_env are_outputs are_env =
    search (rules, with_items_is)
