use Rattle.std.proofs.Common.{◌∙◌, ◌+◌, subst, sym}
use Rattle.std.proofs.lemmas.Bool.{false≢true}
use Rattle.std.proofs.lemmas.Option.{slice_get-get_or}
use Rattle.sched_core.proofs.SeedParts.{input_within}
use Rattle.sched_core.proofs.WholeInputs.{AreAlike, alike_all, alike_more, alike_still, inputs_more, inputs_still, not_alike}
use Rattle.sched_core.proofs.whole_inputs.has_all_whole.Goals as goal
use Rattle.sched_core.proofs.whole_inputs.has_all_whole.Goals.{then-is_whole+else-not-is_at, else-is_whole}

pub returns-then-not-is_at : goal.returns-then-not-is_at
returns-then-not-is_at c =
    let nodes = c.args.plan.now.nodes in
    let numbers = c.inputs-inputs.result.now in
    let within = input_within nodes c.args.d c.drv.result.now numbers c.loop-index.index c.requires
    c.drv.ensures c.inputs-inputs.ensures.numbers c.loop-index-test.true in
    not_alike nodes c.args.d c.args.whole.now c.loop-index.count c.loop-index.index
    c.is_whole.result c.path.result.now c.output_paths.result.now c.loop-index.invariant
    (λ same. false≢true (sym c.if-not-is_at.true ∙ c.is_at.ensures.1 same)) c.if-is_whole.true
    (inputs_more nodes c.args.d c.drv.result.now c.drv-in-loop-index.result.now numbers
    c.loop-index.index _ c.path.result.now c.output_paths.result.now c.is_whole.result
    c.inputs-inputs.ensures.sound.distinct c.drv.ensures c.inputs-inputs.ensures.numbers
    (slice_get-get_or numbers c.loop-index.index _ c.loop-index-test.true)
    c.drv-in-loop-index.ensures c.path.ensures.value c.output_paths.ensures.value within
    c.is_whole.ensures)

pub loop-index-preserved : goal.loop-index-preserved
loop-index-preserved c =
    let nodes = c.args.plan.now.nodes in
    let numbers = c.inputs-inputs.result.now in
    let whole = c.args.whole.now in
    let l = c.loop-index in
    let within = input_within nodes c.args.d c.drv.result.now numbers l.index c.requires
    c.drv.ensures c.inputs-inputs.ensures.numbers c.loop-index-test.true in
    let at_number = slice_get-get_or numbers l.index _ c.loop-index-test.true in
    elim c.if-is_whole.branch [
      | then-is_whole+else-not-is_at w ↦
          subst (λ n. AreAlike nodes c.args.d whole n (l.index + 1)) (sym w.count-is)
          (alike_more nodes c.args.d whole l.count l.index c.is_whole.result w.path.result.now
          w.output_paths.result.now l.invariant (w.is_at.ensures.0 w.if-not-is_at.false)
          w.if-is_whole.true
          (inputs_more nodes c.args.d c.drv.result.now c.drv-in-loop-index.result.now numbers
          l.index _ w.path.result.now w.output_paths.result.now c.is_whole.result
          c.inputs-inputs.ensures.sound.distinct c.drv.ensures c.inputs-inputs.ensures.numbers
          at_number c.drv-in-loop-index.ensures w.path.ensures.value w.output_paths.ensures.value
          within c.is_whole.ensures))
      | else-is_whole w ↦
          subst (λ n. AreAlike nodes c.args.d whole n (l.index + 1)) (sym w.count-is)
          (alike_still nodes c.args.d whole l.count l.index l.invariant
          (inputs_still nodes c.args.d c.drv.result.now c.drv-in-loop-index.result.now numbers
          l.index _ c.is_whole.result c.inputs-inputs.ensures.sound.distinct c.drv.ensures
          c.inputs-inputs.ensures.numbers at_number c.drv-in-loop-index.ensures within
          c.is_whole.ensures w.if-is_whole.false))
    ]

pub returns : goal.returns
returns c =
    alike_all c.args.plan.now.nodes c.args.d c.inputs-inputs.result.now c.args.whole.now
    c.loop-index.count c.loop-index.index c.inputs-inputs.ensures.numbers c.loop-index-test.false
    c.loop-index.invariant
