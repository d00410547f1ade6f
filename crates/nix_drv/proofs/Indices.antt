-- What a binary search finds among keys that rise; those of a derivation do.
use Rattle.std.proofs.Common.{◌≡◌, ◌↔◌, ℕ, zero, suc, ◌+◌, ◌<◌, true, false, List, [], ◌∷◌, length, map, get_or, Option, Some, None, IfSome, IsTrue, refl, sym, ap, subst, ◌∙◌, inl, inr, arith, rules}
use Rattle.std.specs.Prelude.{Contains}
use Rattle.std.specs.Cmp.Lexicographic.{bytes_decides, slice_cmp, texts_ties}
use Rattle.std.specs.Fn.{AlwaysReturns, Called, ReturnsEach}
use Rattle.std.specs.List.{HoldsAt, slice_get}
use Rattle.std.specs.List.Sorted.{IsNonDecreasingBy, IsPartitionPoint, IsSortedBy}
use Rattle.std.specs.Option.{option_map}
use Rattle.std.specs.Ordering.{is_eq, is_lt, nat_cmp, ordering_index, ordering_reverse}
use Rattle.std.specs.declared.cmp.Ordering.TheVariants.{Less, Equal, Greater}
use Rattle.std.proofs.lemmas.Bool.{cases_lt, false≢true}
use Rattle.std.proofs.lemmas.Cmp.{nat_list_cmp_total, tied_itself}
use Rattle.std.proofs.lemmas.List.{get_or-map, length-map}
use Rattle.std.proofs.lemmas.List.Sorted.{searchable_from_sorted}
use Rattle.std.proofs.lemmas.Map.Keys.{Less-from_sorted}
use Rattle.std.proofs.lemmas.Option.{get_or_from_slice_get, slice_get-get_or, slice_get-map, slice_get_read, slice_get_within}
use Rattle.std.proofs.lemmas.Simd.{map-map}
use denote.Param.Members.{Mut}
use Rattle.nix_names.specs.Rising.{IsRising}
use Rattle.nix_names.proofs.Lists.{element}
use Rattle.nix_names.proofs.RisingLists.{sorted_from_rising}
use Rattle.nix_drv.specs.Derivation.{Drv, Input, derivation_form, drv_value, entry_form, entry_value, input_form, input_value, output_form, output_value}
use Rattle.nix_drv.specs.Grammar.{Str}
use Rattle.nix_drv.specs.Order.{Each, InOrder, KeysRise, key}
use Rattle.nix_drv.specs.Parts.{drv_of, input_of}
use Rattle.nix_drv.specs.Indices.{IsIndexOfKey, env_keys, output_names}
use Rattle.nix_drv.specs.declared.derivation.EnvEntry.{EnvEntry as EnvEntryStruct}
use Rattle.nix_drv.specs.declared.derivation.Input.{Input as InputStruct}
use Rattle.nix_drv.specs.declared.derivation.Output.{Output as OutputStruct}
use Rattle.nix_drv.specs.declared.derivation.Parts.{Parts}
use Rattle.nix_drv.proofs.Rising.{order_means_rising}

-- ---- a binary search

-- a closure that stays as it is answers at each call what it answers at the first
pub always_answers : {F X R : Type 0} (g : Mut F X R) (P : X → R → Type 0) (f : F)
    → ((a : X) (r : R) (f' : F) → Called g f a r f' → P a r × (f' ≡ f)) → AlwaysReturns g P f
always_answers {F} {X} {R} g P f answers = record { at = each }
  where
    each : (xs : List X) → ReturnsEach g P f xs
    each [] = tt
    each (a ∷ xs) = search (rules, each xs)

tied : (x y : List ℕ) → slice_cmp nat_cmp x y ≡ Equal → x ≡ y
tied x y e = (bytes_decides x y).0 (texts_ties x y ∙ ap is_eq e)

-- an element that ties has the key
pub index_found : {X : Type 0} (key_of : X → List ℕ) (xs : List X) (wanted : List ℕ) (i : ℕ) → i
    < length xs
    → HoldsAt (λ y. slice_cmp nat_cmp (key_of y) wanted ≡ Equal) xs i
    → IsIndexOfKey (map key_of xs) wanted (Some i)
index_found key_of xs wanted i below ties =
    let d = element _ i below in
    let within : i < length (map key_of xs) = omega (arith, length-map xs key_of) in
    slice_get-get_or _ i [] within
    ∙ ap (λ (k : List ℕ). Some k) (get_or-map key_of _ i d [] below
    ∙ tied _ _ (ties d))

-- keys that rise are in order
sorted_keys : {X : Type 0} (key_of : X → List ℕ) (xs : List X) → IsRising (map key_of xs)
    → IsSortedBy (λ a b. is_lt (slice_cmp nat_cmp (key_of a) (key_of b))) xs
sorted_keys key_of xs rises k d low next =
    let within : k + 1 < length (map key_of xs) = omega (arith, length-map xs key_of) in
    let less : slice_cmp nat_cmp (get_or (map key_of xs) k []) (get_or (map key_of xs) (k + 1) [])
    ≡ Less =
    Less-from_sorted (slice_cmp nat_cmp) _ k _ []
    (sorted_from_rising _ rises) (omega arith) within in
    let here : get_or (map key_of xs) k [] ≡ key_of (get_or xs k d) =
    get_or-map key_of _ k d [] (omega arith) in
    let there : get_or (map key_of xs) (k + 1) [] ≡ key_of (get_or xs (k + 1) d) =
    get_or-map key_of _ _ d [] next in
    let less_here : slice_cmp nat_cmp (key_of (get_or xs k d)) (key_of (get_or xs (k + 1) d))
    ≡ Less = rw (here, there) at less in
    ap is_lt (nat_list_cmp_total.antisymm (key_of (get_or xs (k + 1) d)) (key_of (get_or xs k d))
    ∙ ap ordering_reverse less_here)

-- where all keys before an index are less, and all others greater, none is the wanted one
pub index_none : {X : Type 0} (key_of : X → List ℕ) (xs : List X) (wanted : List ℕ) (i : ℕ)
    → IsRising (map key_of xs)
    → (IsNonDecreasingBy (λ y. ordering_index (slice_cmp nat_cmp (key_of y) wanted)) xs
    → IsPartitionPoint (λ y. slice_cmp nat_cmp (key_of y) wanted ≡ Less)
    (λ y. slice_cmp nat_cmp (key_of y) wanted ≡ Greater) xs i)
    → IsIndexOfKey (map key_of xs) wanted None
index_none key_of xs wanted i rises parts (j, below, is) =
    let within : j < length xs = omega (arith, length-map xs key_of) in
    let d = element _ j within in
    let point = parts
    (searchable_from_sorted nat_list_cmp_total key_of xs wanted (sorted_keys key_of _ rises))
    in
    let same : key_of (get_or xs j d) ≡ wanted = sym (get_or-map key_of _ j d _ within) ∙ is
    in
    let ties : slice_cmp nat_cmp (key_of (get_or xs j d)) wanted
    ≡ Equal = ap (λ (k : List ℕ). slice_cmp nat_cmp k wanted) same
    ∙ tied_itself nat_list_cmp_total wanted in
    elim (cases_lt j i) [
      | inl before ↦ let less = point.0 j d (omega arith) before in let clash : Less
          ≡ Equal = sym less ∙ ties in cc
      | inr after ↦ let more = point.1 j d after within in let clash : Greater ≡ Equal = sym more
          ∙ ties in cc
    ]

-- ---- a derivation's keys

pub outputs_rise : (drv : Drv) → InOrder derivation_form (drv_value drv)
    → IsRising (output_names drv)
unfolding KeysRise
outputs_rise drv ordered =
    let same : map (key output_form) (map output_value drv.outputs)
    ≡ output_names drv = map-map (key output_form) output_value drv.outputs in
    subst IsRising same ((order_means_rising _ _).0 ordered).1.0.0

pub env_rises : (drv : Drv) → InOrder derivation_form (drv_value drv) → IsRising (env_keys drv)
unfolding KeysRise
env_rises drv ordered =
    let same : map (key entry_form) (map entry_value drv.env)
    ≡ env_keys drv = map-map (key entry_form) entry_value drv.env in
    subst IsRising same
    ((order_means_rising _ _).0
    ordered).1.1.1.1.1.1.1.1.1.1.1.1.1.0.0

-- the keys of the parts are those of the derivation
pub output_keys : (parts : Parts) (drv : Drv) (outputs : List OutputStruct) → drv_of parts ≡ drv
    → outputs ≡ parts.outputs.items
    → map (λ (o : OutputStruct). o.name.items) outputs ≡ output_names drv
output_keys parts drv outputs view same = search (rules, map-map)

pub entry_keys : (parts : Parts) (drv : Drv) (entries : List EnvEntryStruct) → drv_of parts ≡ drv
    → entries ≡ parts.env.items
    → map (λ (e : EnvEntryStruct). e.key.items) entries ≡ env_keys drv
entry_keys parts drv entries view same = search (rules, map-map)

pub outputs_rise_here : (parts : Parts) (drv : Drv) → drv_of parts ≡ drv
    → InOrder derivation_form (drv_value (drv_of parts)) → IsRising (output_names drv)
outputs_rise_here parts drv view ordered = subst (λ (d : Drv). IsRising (output_names d)) view
    (outputs_rise _ ordered)

pub env_rises_here : (parts : Parts) (drv : Drv) → drv_of parts ≡ drv
    → InOrder derivation_form (drv_value (drv_of parts)) → IsRising (env_keys drv)
env_rises_here parts drv view ordered = subst (λ (d : Drv). IsRising (env_keys d)) view
    (env_rises _ ordered)

-- what holds of each element holds of one
each_at : {A : Type 0} (P : A → Type 0) (vs : List A) (k : ℕ) (v : A) → Each P vs → slice_get vs k
    ≡ Some v → P v
each_at P [] k v all at = absurd cc
each_at P (w ∷ ws) zero v all at = search rules
each_at P (w ∷ ws) (suc k) v all at = each_at P ws k v all.1 at

map_itself : (names : List (List ℕ)) → map (key Str) names ≡ names
map_itself [] = refl
map_itself (n ∷ ns) = search (rules, map_itself ns)

-- the names of an input rise
pub names_rise : (drv : Drv) (k : ℕ) (input : Input) → InOrder derivation_form (drv_value drv)
    → slice_get drv.inputs k ≡ Some input → IsRising input.names
unfolding KeysRise
names_rise drv k input ordered at =
    let each = ((order_means_rising _ _).0 ordered).1.1.1.0.1 in
    let there : slice_get (map input_value drv.inputs) k ≡ Some (input_value input) =
    slice_get-map input_value drv.inputs k ∙ ap (option_map input_value) at in
    let rises = each_at (KeysRise input_form) (map input_value drv.inputs) k (input_value input)
    each there in
    subst IsRising (map_itself input.names) rises.1.1.1.0.0

-- an input of the derivation, as the parts have it
pub input_at : (parts : Parts) (drv : Drv) (k : ℕ) (input : InputStruct) → drv_of parts ≡ drv → k
    < length drv.inputs
    → input ≡ get_or parts.inputs.items k input → slice_get drv.inputs k ≡ Some (input_of input)
input_at parts drv k input view low is = search (rules, length-map, slice_get_read, slice_get-map)

pub names_rise_here : (parts : Parts) (drv : Drv) (k : ℕ) (input : Input) → drv_of parts ≡ drv
    → InOrder derivation_form (drv_value (drv_of parts))
    → slice_get drv.inputs k ≡ Some input → IsRising input.names
names_rise_here parts drv k input view ordered at =
    names_rise _ k _ (subst (λ (d : Drv). InOrder derivation_form (drv_value d)) view ordered) at

-- what a search among the names of an input tells
pub used_found : (inputs : List Input) (k : ℕ) (input : Input) (name : List ℕ) (index : ℕ)
    → slice_get inputs k ≡ Some input → IsIndexOfKey input.names name (Some index)
    → IfSome (slice_get inputs k) (λ used. IsTrue true ↔ Contains used.names name)
used_found inputs k input name index at found =
    subst (λ (o : Option Input). IfSome o (λ used. IsTrue true ↔ Contains used.names name))
    (sym at) (
      λ _. (
        index,
        slice_get_within input.names index name found,
        get_or_from_slice_get input.names _ name _ found,
      ),
      λ _. refl,
    )

pub used_none : (inputs : List Input) (k : ℕ) (input : Input) (name : List ℕ) → slice_get inputs k
    ≡ Some input → IsIndexOfKey input.names name None
    → IfSome (slice_get inputs k) (λ used. IsTrue false ↔ Contains used.names name)
used_none inputs k input name at none = search (rules, false≢true)
