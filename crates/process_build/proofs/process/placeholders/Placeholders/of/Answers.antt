use Rattle.std.proofs.Common.{◌∙◌, ◌+◌, ap, subst, sym, take}
use Rattle.std.specs.List.{AllZip}
use Rattle.process_build.specs.Setups.{placeholder_of}
use Rattle.process_build.specs.private.Placeholders.{IsPlaceholder}
use Rattle.process_build.proofs.Zips.{zip_more}
use Rattle.process_build.proofs.process.placeholders.Placeholders.of.Goals as goal

pub loop-output-preserved : goal.loop-output-preserved
loop-output-preserved c =
    subst (AllZip IsPlaceholder (take (c.loop-output.output-index + 1) c.args.outputs.now))
    (sym c.in_ok-push.ensures.items)
    (zip_more IsPlaceholder c.args.outputs.now c.loop-output.all.items c.loop-output.output-index
    c.output-item.result _ c.loop-output-test.true c.output-item.is c.loop-output.invariant (
      c.in_ok-placeholder_text.ensures.text ∙ ap placeholder_of c.deref.ensures.value,
      c.text.ensures.value,
    ))
