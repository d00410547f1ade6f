use Rattle.std.proofs.Common.{◌+◌, ◌∙◌, ap, subst, sym}
use Rattle.std.proofs.lemmas.Bool.{false≢true}
use Rattle.builder_start.proofs.GraphStarts.{AreFirstOutputs, no_outputs, outputs_all, outputs_more, outputs_still}
use Rattle.builder_start.proofs.starts.outputs_among.Goals as goal
use Rattle.builder_start.proofs.starts.outputs_among.Goals.{then-is_among+in_ok-add_paths, else-is_among}

pub inputs-init : goal.inputs-init
inputs-init c =
    subst (AreFirstOutputs c.args.paths.now c.args.whole.now 0) (sym c.new-outputs.ensures.items)
    (no_outputs c.args.paths.now c.args.whole.now)

pub inputs-preserved : goal.inputs-preserved
inputs-preserved c =
    let paths = c.args.paths.now in
    let whole = c.args.whole.now in
    let l = c.inputs in
    let input = c.input-item.result in
    elim c.if-is_among.branch [
      | then-is_among+in_ok-add_paths w ↦
          subst (AreFirstOutputs paths whole (l.input-index + 1))
          (sym (ap (λ v. v.items) w.outputs-is ∙ w.in_ok-add_paths.ensures))
          (outputs_more paths whole l.input-index input c.inputs-test.true c.input-item.is
          l.outputs.items w.deref.result.now l.invariant (c.is_among.ensures.0 w.if-is_among.true)
          w.deref.ensures.value)
      | else-is_among w ↦
          subst (AreFirstOutputs paths whole (l.input-index + 1))
          (sym (ap (λ v. v.items) w.outputs-is))
          (outputs_still paths whole l.input-index input c.inputs-test.true c.input-item.is
          l.outputs.items l.invariant
          (λ has. false≢true (sym w.if-is_among.false ∙ c.is_among.ensures.1 has)))
    ]

pub returns : goal.returns
returns c =
    outputs_all c.args.paths.now c.args.whole.now c.inputs.input-index c.inputs.outputs.items
    c.inputs-test.false c.inputs.invariant
