use Rattle.std.proofs.Common.{◌∙◌, ap, map, sym}
use Rattle.std.proofs.lemmas.Option.{slice_get-get_or}
use Rattle.build_outcome.specs.Jobs.{shown_whole}
use Rattle.sched_core.proofs.SeedParts.{input_within}
use Rattle.sched_core.proofs.WholeInputs.{inputs_more, inputs_still, told_all, told_more, told_still}
use Rattle.sched_core.proofs.whole_inputs.all_whole.Goals as goal
use Rattle.sched_core.proofs.whole_inputs.all_whole.Goals.{then-is_whole+in_ok-input+in_ok-push, else-is_whole}

pub loop-index-preserved : goal.loop-index-preserved
loop-index-preserved c =
    let nodes = c.args.plan.now.nodes in
    let numbers = c.inputs-inputs.result.now in
    let within = input_within nodes c.args.d c.drv.result.now numbers c.loop-index.index c.requires
    c.drv.ensures c.inputs-inputs.ensures.numbers c.loop-index-test.true in
    let at_number = slice_get-get_or numbers c.loop-index.index _ c.loop-index-test.true in
    elim c.if-is_whole.branch [
      | then-is_whole+in_ok-input+in_ok-push w ↦
          told_more nodes c.args.d c.loop-index.whole.items c.if-is_whole.whole.items
          c.loop-index.index _ c.is_whole.result w.path.result.now w.output_paths.result.now
          c.loop-index.invariant
          (ap (λ v. v.items) w.whole-is ∙ w.in_ok-push.ensures.items) w.in_ok-input.ensures
          w.if-is_whole.true
          (inputs_more nodes c.args.d c.drv.result.now c.drv-in-loop-index.result.now numbers
          c.loop-index.index _ w.path.result.now w.output_paths.result.now c.is_whole.result
          c.inputs-inputs.ensures.sound.distinct c.drv.ensures c.inputs-inputs.ensures.numbers
          at_number c.drv-in-loop-index.ensures w.path.ensures.value w.output_paths.ensures.value
          within c.is_whole.ensures)
      | else-is_whole w ↦
          told_still nodes c.args.d c.loop-index.whole.items c.if-is_whole.whole.items
          c.loop-index.index c.loop-index.invariant (ap (λ v. v.items) w.whole-is)
          (inputs_still nodes c.args.d c.drv.result.now c.drv-in-loop-index.result.now numbers
          c.loop-index.index _ c.is_whole.result c.inputs-inputs.ensures.sound.distinct
          c.drv.ensures c.inputs-inputs.ensures.numbers at_number c.drv-in-loop-index.ensures
          within c.is_whole.ensures w.if-is_whole.false)
    ]

pub returns : goal.returns
returns c =
    told_all c.args.plan.now.nodes c.args.d c.inputs-inputs.result.now
    (map shown_whole c.loop-index.whole.items) c.loop-index.index
    c.inputs-inputs.ensures.numbers c.loop-index-test.false c.loop-index.invariant
