use Rattle.std.proofs.Common.{◌∙◌, List, map, sym, ap, subst, Bool}
use Rattle.std.specs.Prelude.{IfOk, if◌then◌else◌}
use Rattle.nix_drv.specs.Derivation.{Drv, Input, IsLooseText}
use Rattle.nix_drv.specs.Parts.{input_of}
use Rattle.nix_drv.specs.declared.derivation.Input.{Input as InputStruct}
use Rattle.drv_graph.specs.Modulo.{IsUnited, masked, replaced, with_inputs}
use Rattle.drv_graph.proofs.Masking.{text_from}
use Rattle.drv_graph.proofs.outputs.modulo.text_by_hashes.Goals as goal

pub returns-then-mask : goal.returns-then-mask
returns-then-mask c =
    let given = c.in_ok-replaced.ensures.value ∙ ap
    (λ (inputs : List Input). replaced inputs c.args.hashes.now) c.inputs.ensures in
    text_from _ _ _ _
    _ _
    (subst (λ (inputs : List Input). IsUnited inputs (map input_of c.as_slice-inputs.result.now))
    given
    (subst (λ (items : List InputStruct). IsUnited (map input_of c.in_ok-replaced.replaced.items)
    (map input_of items)) (sym c.as_slice-inputs.ensures.value) c.in_ok-united.ensures))
    (sym (ap (λ (b : Bool). if b then masked c.args.drv.now else c.args.drv.now) c.if-mask.true))
    c.masked_text.ensures

pub returns : goal.returns
returns c =
    let given = c.in_ok-replaced.ensures.value ∙ ap
    (λ (inputs : List Input). replaced inputs c.args.hashes.now) c.inputs.ensures in
    text_from _ _ _ _
    _ _
    (subst (λ (inputs : List Input). IsUnited inputs (map input_of c.as_slice-inputs.result.now))
    given
    (subst (λ (items : List InputStruct). IsUnited (map input_of c.in_ok-replaced.replaced.items)
    (map input_of items)) (sym c.as_slice-inputs.ensures.value) c.in_ok-united.ensures))
    (sym (ap (λ (b : Bool). if b then masked c.args.drv.now else c.args.drv.now) c.if-mask.false))
    (subst (λ (d : Drv). IfOk c.text_with_inputs.result
    (λ text. IsLooseText (with_inputs d (map input_of c.as_slice-inputs.result.now))
    text.items)) c.parts.ensures.parts c.text_with_inputs.ensures)
