-- What `==` answers for two derivations, and for two of their parts.
use Rattle.std.specs.Prelude.{◌≡◌, ◌&&◌, ◌↔◌, Bool, IsTrue, nat_eq}
use Rattle.std.specs.Cmp.{IsEquivalence, and_equiv, on_equiv}
use Rattle.std.specs.Cmp.Lexicographic.{lists_equiv, nat_list_eq_equiv, pointwise}
use Rattle.nix_drv.specs.Derivation.{Drv, EnvEntry, Input, Output}
use Rattle.nix_drv.specs.Parts.{entry_of, input_of, output_of}
use Rattle.nix_drv.specs.declared.derivation.EnvEntry.{EnvEntry as EnvEntryStruct}
use Rattle.nix_drv.specs.declared.derivation.Input.{Input as InputStruct}
use Rattle.nix_drv.specs.declared.derivation.Output.{Output as OutputStruct}

-- whether two outputs are equal
abbrev pub same_output : Output → Output → Bool
same_output a b =
    ((pointwise nat_eq a.name b.name && pointwise nat_eq a.path b.path)
    && pointwise nat_eq a.algo b.algo) && pointwise nat_eq a.hash b.hash

-- whether two input derivations are equal
abbrev pub same_input : Input → Input → Bool
same_input a b = pointwise nat_eq a.path b.path && pointwise (pointwise nat_eq) a.names b.names

-- whether two entries of the environment are equal
abbrev pub same_entry : EnvEntry → EnvEntry → Bool
same_entry a b = pointwise nat_eq a.key b.key && pointwise nat_eq a.value b.value

-- whether two derivations have equal outputs, input derivations and sources
abbrev pub same_paths : Drv → Drv → Bool
same_paths a b =
    (pointwise same_output a.outputs b.outputs && pointwise same_input a.inputs b.inputs)
    && pointwise (pointwise nat_eq) a.sources b.sources

-- whether two derivations have the same system and builder
abbrev pub same_program : Drv → Drv → Bool
same_program a b = pointwise nat_eq a.system b.system && pointwise nat_eq a.builder b.builder

-- whether two derivations have the same system, builder, arguments and environment
abbrev pub same_build : Drv → Drv → Bool
same_build a b = (same_program a b && pointwise (pointwise nat_eq) a.args b.args)
    && pointwise same_entry a.env b.env

-- whether two derivations are equal
abbrev pub same_drv : Drv → Drv → Bool
same_drv a b = same_paths a b && same_build a b

-- whether two outputs in the program's structures are equal
abbrev pub outputs_equal : OutputStruct → OutputStruct → Bool
outputs_equal a b = same_output (output_of a) (output_of b)

-- whether two input derivations in the program's structures are equal
abbrev pub inputs_equal : InputStruct → InputStruct → Bool
inputs_equal a b = same_input (input_of a) (input_of b)

-- whether two entries of the environment in the program's structures are equal
abbrev pub entries_equal : EnvEntryStruct → EnvEntryStruct → Bool
entries_equal a b = same_entry (entry_of a) (entry_of b)

-- equality of outputs is an equivalence
pub same_output_laws : IsEquivalence same_output
same_output_laws =
    and_equiv
    (and_equiv (and_equiv (on_equiv (λ (o : Output). o.name) nat_list_eq_equiv)
    (on_equiv (λ (o : Output). o.path) nat_list_eq_equiv))
    (on_equiv (λ (o : Output). o.algo) nat_list_eq_equiv))
    (on_equiv (λ (o : Output). o.hash) nat_list_eq_equiv)

-- so is that of input derivations
pub same_input_laws : IsEquivalence same_input
same_input_laws =
    and_equiv (on_equiv (λ (i : Input). i.path) nat_list_eq_equiv)
    (on_equiv (λ (i : Input). i.names) (lists_equiv nat_list_eq_equiv))

-- so is that of entries
pub same_entry_laws : IsEquivalence same_entry
same_entry_laws =
    and_equiv (on_equiv (λ (e : EnvEntry). e.key) nat_list_eq_equiv)
    (on_equiv (λ (e : EnvEntry). e.value) nat_list_eq_equiv)

-- so is that of derivations
pub same_drv_laws : IsEquivalence same_drv
same_drv_laws =
    and_equiv
    (and_equiv
    (and_equiv (on_equiv (λ (d : Drv). d.outputs) (lists_equiv same_output_laws))
    (on_equiv (λ (d : Drv). d.inputs) (lists_equiv same_input_laws)))
    (on_equiv (λ (d : Drv). d.sources) (lists_equiv nat_list_eq_equiv)))
    (and_equiv
    (and_equiv (and_equiv (on_equiv (λ (d : Drv). d.system) nat_list_eq_equiv)
    (on_equiv (λ (d : Drv). d.builder) nat_list_eq_equiv))
    (on_equiv (λ (d : Drv). d.args) (lists_equiv nat_list_eq_equiv)))
    (on_equiv (λ (d : Drv). d.env) (lists_equiv same_entry_laws)))

-- so is that of outputs in the program's structures
pub outputs_equal_laws : IsEquivalence outputs_equal
outputs_equal_laws = on_equiv output_of same_output_laws

-- so is that of input derivations in the program's structures
pub inputs_equal_laws : IsEquivalence inputs_equal
inputs_equal_laws = on_equiv input_of same_input_laws

-- so is that of entries in the program's structures
pub entries_equal_laws : IsEquivalence entries_equal
entries_equal_laws = on_equiv entry_of same_entry_laws

-- two derivations are equal by `==` exactly where they are the same
abbrev pub EqualDerivationsAreSame : Type 0
EqualDerivationsAreSame = (a b : Drv) → IsTrue (same_drv a b) ↔ (a ≡ b)
