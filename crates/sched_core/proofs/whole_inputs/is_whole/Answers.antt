use Rattle.std.proofs.Common.{◌∙◌, ap, arith, sym}
use Rattle.nix_drv.specs.declared.derivation.Output.{Output}
use Rattle.sched_core.proofs.WholeInputs.{all_named, named_more, one_unnamed}
use Rattle.sched_core.proofs.whole_inputs.is_whole.Goals as goal

pub returns-then-not-uses : goal.returns-then-not-uses
returns-then-not-uses c =
    one_unnamed c.args.drv.now.inputs c.args.index c.args.used.now
    c.outputs-output-items.result.now c.loop-output.output-index c.output-item.result _ c.uses.result
    c.outputs-output-items.ensures c.loop-output-test.true c.output-item.is c.deref.ensures.value
    c.if-not-uses.true c.uses.ensures

pub loop-output-preserved : goal.loop-output-preserved
loop-output-preserved c =
    named_more c.args.drv.now.inputs c.args.index c.outputs-output-items.result.now
    c.loop-output.output-index c.output-item.result _ c.uses.result c.loop-output-test.true
    c.output-item.is c.deref.ensures.value c.if-not-uses.false c.uses.ensures
    c.loop-output.invariant

pub returns : goal.returns
returns c =
    all_named c.args.drv.now.inputs c.args.index c.args.used.now c.outputs-output-items.result.now
    c.loop-output.output-index c.outputs-output-items.ensures c.loop-output-test.false
    c.loop-output.invariant
