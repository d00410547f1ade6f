use Rattle.std.proofs.Common.{subst}
use Rattle.std.specs.Prelude.{IfSome, slice_get}
use Rattle.std.proofs.lemmas.Option.{slice_get-get_or}
use Rattle.drv_graph.specs.Nodes.{Node}
use Rattle.sched_core.specs.private.Following.{IsRest}
use Rattle.build_outcome.specs.Jobs.{seeds_of}
use Rattle.sched_core.proofs.Followed.{input_none, input_some, input_step, nothing_told, seeds_left, seeds_told, seeds_untold}
use Rattle.sched_core.proofs.SeedParts.{input_within}
use Rattle.sched_core.proofs.has_seeds.has_seeds.Goals as goal
use Rattle.sched_core.proofs.has_seeds.has_seeds.Goals.{in-Some, in-None}

pub loop-index-preserved : goal.loop-index-preserved
loop-index-preserved c =
    let within = input_within _ _ _ _ _
    c.requires c.drv-drv.ensures c.inputs-inputs.ensures.numbers c.loop-index-test.true in
    input_step _ _ _ _ _ _
    _ _ _ _
    c.inputs-inputs.ensures.sound.distinct
    c.drv-drv.ensures c.inputs-inputs.ensures.numbers
    (slice_get-get_or _ _ _ c.loop-index-test.true) c.drv-used.ensures
    within
    (elim c.match-left.branch [
      | in-Some w ↦
          input_some c.drv-drv.result.now.inputs c.loop-index.index c.drv-used.result.now
          c.loop-index.left c.match-left.left w.rest_after_used-left.result w.in-Some.rest
          w.in-Some.is w.rest_after_used-left.ensures w.left-is
      | in-None w ↦ input_none c.drv-drv.result.now.inputs c.loop-index.index c.drv-used.result.now
          c.loop-index.left c.match-left.left w.in-None.is w.left-is
    ])
    c.loop-index.invariant

pub returns-in-Some-left : goal.returns-in-Some-left
returns-in-Some-left c =
    let nodes = c.args.plan.now.nodes in
    let after = seeds_left _ _ _ _
    _ _ c.inputs-inputs.ensures.numbers c.loop-index-test.false
    c.loop-index.invariant in
    seeds_told nodes c.args.d c.args.seeds.now c.in-Some-left.rest _
    (subst (λ o. IfSome (slice_get nodes c.args.d)
    (λ (node : Node). IsRest c.args.seeds.now (seeds_of nodes node.drv) o)) c.in-Some-left.is
    after)
    (nothing_told _ _ c.is_empty.ensures)

pub returns-in-None-left : goal.returns-in-None-left
returns-in-None-left c =
    let nodes = c.args.plan.now.nodes in
    let after = seeds_left _ _ _ _
    c.loop-index.index c.loop-index.left c.inputs-inputs.ensures.numbers c.loop-index-test.false
    c.loop-index.invariant in
    seeds_untold nodes c.args.d c.args.seeds.now
    (subst (λ o. IfSome (slice_get nodes c.args.d)
    (λ (node : Node). IsRest c.args.seeds.now (seeds_of nodes node.drv) o)) c.in-None-left.is
    after)
