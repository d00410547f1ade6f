use Rattle.std.proofs.lemmas.Option.{slice_get-get_or}
use Rattle.sched_core.proofs.SeedParts.{all_seeds, input_added, input_within}
use Rattle.sched_core.proofs.seeds_of.seeds_of.Goals as goal

pub loop-index-preserved : goal.loop-index-preserved
loop-index-preserved c =
    let nodes = c.args.plan.now.nodes in
    let numbers = c.inputs-inputs.result.now in
    let within = input_within nodes c.args.d c.drv.result.now numbers c.loop-index.index c.requires
    c.drv.ensures c.inputs-inputs.ensures.numbers c.loop-index-test.true in
    input_added nodes c.args.d c.drv.result.now c.drv-used.result.now numbers c.loop-index.index _
    c.loop-index.seeds.items _ c.inputs-inputs.ensures.sound.distinct
    c.drv.ensures c.inputs-inputs.ensures.numbers
    (slice_get-get_or numbers c.loop-index.index _ c.loop-index-test.true) c.drv-used.ensures
    within c.in_ok-add_used.ensures c.loop-index.invariant

pub returns : goal.returns
returns c =
    all_seeds c.args.plan.now.nodes c.args.d c.inputs-inputs.result.now c.loop-index.seeds.items
    c.loop-index.index c.inputs-inputs.ensures.numbers c.loop-index-test.false
    c.loop-index.invariant
