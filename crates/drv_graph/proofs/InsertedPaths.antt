-- Paths put into a draft where it has none.
use Rattle.std.proofs.Common.{◌≡◌, ◌∙◌, ◌<◌, ℕ, ◌+◌, zero, suc, List, [], ◌∷◌, length, map, take, set, get_or, refl, sym, ap, subst, arith, Some, rules}
use Rattle.std.specs.Prelude.{Contains, slice_get}
use Rattle.std.specs.List.{AllZip}
use Rattle.std.specs.Vec.{with_items}
use Rattle.std.proofs.lemmas.List.{length-map, map-set, get_or-map, with_items_is}
use Rattle.std.proofs.lemmas.Option.{none-some, same_Some, slice_get-get_or}
use Rattle.std.proofs.lemmas.Simd.{map-map}
use Rattle.nix_names.specs.Rising.{IsRising}
use Rattle.nix_names.proofs.RisingLists.{distinct_from_rising}
use Rattle.nix_drv.specs.Derivation.{Drv, EnvEntry, Input, Output, derivation_form, drv_value, entry_form, entry_value, input_form, input_value, output_form, output_value}
use Rattle.nix_drv.specs.Grammar.{Free, Many, Rising, Str}
use Rattle.nix_drv.specs.Order.{Each, InOrder, KeysRise, key}
use Rattle.nix_drv.specs.Parts.{drv_of, entry_of, output_of}
use Rattle.nix_drv.specs.declared.derivation.EnvEntry.{EnvEntry as EntryStruct}
use Rattle.nix_drv.specs.declared.derivation.Output.{Output as OutputStruct}
use Rattle.nix_drv.specs.declared.derivation.Parts.{Parts}
use Rattle.nix_drv.proofs.Rising.{order_means_rising}
use Rattle.drv_graph.specs.Modulo.{names_of}
use Rattle.drv_graph.specs.Nodes.{inputs_of}
use Rattle.drv_graph.specs.private.Insertion.{IsInserted, IsInsertedEntry, inserted, inserted_output, inserted_outputs}
use Rattle.drv_graph.proofs.PathLists.{same_index}
use Rattle.nix_names.proofs.Lists.{Contains-from_get}

-- ---- outputs

-- one path more changes one output more
inserted_set : (os : List Output) (ps : List (List ℕ)) (i : ℕ) (o : Output) (p : List ℕ)
    → slice_get os i ≡ Some o → slice_get ps i ≡ Some p
    → inserted_outputs os (take (suc i) ps) ≡ set (inserted_outputs os (take i ps)) i
    (inserted_output o p)
inserted_set [] ps i o p at_o at_p = absurd (none-some o at_o)
inserted_set (x ∷ os) [] i o p at_o at_p = absurd (none-some p at_p)
inserted_set (x ∷ os) (q ∷ ps) zero o p at_o at_p = search (rules, same_Some)
inserted_set (x ∷ os) (q ∷ ps) (suc i) o p at_o at_p =
    search (rules, inserted_set os ps i o p at_o at_p)

-- the outputs after are as they were
not_inserted : (os : List Output) (ps : List (List ℕ)) (i : ℕ)
    → slice_get (inserted_outputs os (take i ps)) i ≡ slice_get os i
not_inserted os [] zero = refl
not_inserted os [] (suc i) = refl
not_inserted os (q ∷ ps) zero = refl
not_inserted [] (q ∷ ps) (suc i) = refl
not_inserted (x ∷ os) (q ∷ ps) (suc i) = not_inserted _ _ i

pub inserted_more : (old now after : List OutputStruct) (paths : List (List ℕ)) (i : ℕ)
    (x d : OutputStruct) (path : List ℕ) → i < length now
    → slice_get paths i ≡ Some path → map output_of now
    ≡ inserted_outputs (map output_of old) (take i paths) → after ≡ set now i x
    → output_of x ≡ inserted_output (output_of (get_or now i d)) path → map output_of after
    ≡ inserted_outputs (map output_of old) (take (i + 1) paths)
inserted_more old now after paths i x d path below at same is made =
    let was : Output = output_of (get_or now i d) in
    let next : suc i ≡ i + 1 = omega arith in
    let here : slice_get (map output_of now) i ≡ Some was =
    slice_get-get_or _ i was (omega (arith, length-map now output_of))
    ∙ ap Some (get_or-map output_of _ i d _ below) in
    let there : slice_get (map output_of old) i
    ≡ Some was = sym (not_inserted _ _ i)
    ∙ ap (λ (os : List Output). slice_get os i) (sym same) ∙ here in
    ap (map output_of) is ∙ map-set output_of now i x
    ∙ ap (λ (os : List Output). set os i (output_of x)) same
    ∙ ap (set (inserted_outputs (map output_of old) (take i paths)) i) made
    ∙ sym (inserted_set _ _ i _ _ there at)
    ∙ ap (λ (n : ℕ). inserted_outputs (map output_of old) (take n paths)) next

-- names are as they were
pub same_names : (os : List Output) (ps : List (List ℕ)) → names_of (inserted_outputs os ps)
    ≡ names_of os
same_names os [] = refl
same_names [] (p ∷ ps) = refl
same_names (o ∷ os) (p ∷ ps) = search (rules, same_names os ps)

-- ---- entries

-- an entry under a name has the path beside it
pub entry_under : (names paths : List (List ℕ)) (draft filled : EnvEntry) (index : ℕ)
    (path : List ℕ) → IsRising names → slice_get names index ≡ Some draft.key
    → slice_get paths index ≡ Some path → filled.key ≡ draft.key → filled.value
    ≡ inserted draft.value path → IsInsertedEntry names paths draft filled
entry_under names paths draft filled index path rising at at_path same is =
    search (rules, same_index, distinct_from_rising, same_Some, Contains-from_get)

-- another entry stays
pub entry_other : (names paths : List (List ℕ)) (draft : EnvEntry) → (Contains names draft.key → ⊥)
    → IsInsertedEntry names paths draft draft
entry_other names paths draft none = search (rules, Contains-from_get)

same_keys : (names paths : List (List ℕ)) (draft filled : List EnvEntry)
    → AllZip (IsInsertedEntry names paths) draft filled
    → map (λ (e : EnvEntry). e.key) filled ≡ map (λ (e : EnvEntry). e.key) draft
same_keys names paths [] [] zip = refl
same_keys names paths [] (f ∷ fs) zip = absurd zip
same_keys names paths (d ∷ ds) [] zip = absurd zip
same_keys names paths (d ∷ ds) (f ∷ fs) zip = search (rules, same_keys names paths ds fs zip.1)

-- ---- parts

pub inserted_parts : (parts : Parts) (draft : Drv) (outputs : List OutputStruct)
    (env : List EntryStruct) (paths : List (List ℕ)) → drv_of parts ≡ draft
    → length outputs ≡ parts.outputs.len → length env ≡ parts.env.len → map output_of outputs
    ≡ inserted_outputs (map output_of parts.outputs.items) paths
    → AllZip (IsInsertedEntry (names_of draft.outputs) paths) (map entry_of parts.env.items)
    (map entry_of env)
    → IsInserted paths draft
    (drv_of (record parts {
      outputs = with_items parts.outputs outputs;
      env = with_items parts.env env;
    }))
inserted_parts parts draft outputs env paths view long_outputs long_env are_outputs are_env =
    search (rules, with_items_is)

-- ---- the order rules

each_output : (os : List Output) → Each (KeysRise output_form) (map output_value os)
unfolding KeysRise
each_output [] = tt
each_output (o ∷ os) = search (rules, each_output os)

each_entry : (es : List EnvEntry) → Each (KeysRise entry_form) (map entry_value es)
unfolding KeysRise
each_entry [] = tt
each_entry (e ∷ es) = ((tt, (tt, (tt, (tt, tt)))), each_entry es)

-- a draft keeps the order rules when it gets paths where it has none
pub inserted_order : (paths : List (List ℕ)) (draft filled : Drv) → IsInserted paths draft filled
    → InOrder derivation_form (drv_value draft) → InOrder derivation_form (drv_value filled)
unfolding KeysRise
inserted_order paths draft filled is ordered =
    let h : KeysRise derivation_form (drv_value draft) =
    (order_means_rising _ _).0 ordered in
    let names : map (key output_form) (map output_value draft.outputs)
    ≡ map (key output_form) (map output_value filled.outputs) =
    map-map (key output_form) output_value draft.outputs
    ∙ sym (ap names_of is.outputs ∙ same_names _ _)
    ∙ sym (map-map (key output_form) output_value filled.outputs) in
    let keys : map (key entry_form) (map entry_value draft.env)
    ≡ map (key entry_form) (map entry_value filled.env) =
    map-map (key entry_form) entry_value draft.env
    ∙ sym (same_keys _ _ _ _ is.env)
    ∙ sym (map-map (key entry_form) entry_value filled.env) in
    let outputs : KeysRise (Many Rising output_form) (map output_value filled.outputs) =
    (subst IsRising names h.1.0.0, each_output _) in
    let inputs : KeysRise (Many Rising input_form) (map input_value filled.inputs) =
    subst (λ (is : List Input). KeysRise (Many Rising input_form) (map input_value is))
    (sym is.inputs) h.1.1.1.0 in
    let sources : KeysRise (Many Rising Str) filled.sources =
    subst (KeysRise (Many Rising Str)) (sym is.sources) h.1.1.1.1.1.0 in
    let args : KeysRise (Many Free Str) filled.args =
    subst (KeysRise (Many Free Str)) (sym is.args) h.1.1.1.1.1.1.1.1.1.1.1.0 in
    let env : KeysRise (Many Rising entry_form) (map entry_value filled.env) =
    (subst IsRising keys h.1.1.1.1.1.1.1.1.1.1.1.1.1.0.0, each_entry _) in
    (order_means_rising _ _).1 (
      tt,
      (
        outputs,
        (tt, (inputs, (tt, (sources, (tt, (tt, (tt, (tt, (tt, (args, (tt, (env, tt)))))))))))),
      ),
    )

-- the paths of inputs rise
pub inputs_rise : (draft : Drv) → InOrder derivation_form (drv_value draft)
    → IsRising (inputs_of draft)
unfolding KeysRise
inputs_rise draft ordered =
    subst IsRising (map-map (key input_form) input_value draft.inputs)
    ((order_means_rising _ _).0 ordered).1.1.1.0.0
