use Rattle.std.proofs.Common.{◌+◌, All, subst, sym, take}
use Rattle.std.specs.List.{AllZip}
use Rattle.std.proofs.lemmas.List.Elements.{All-push}
use Rattle.process_build.specs.Setups.{IsFilled, IsProcessText, text_bytes}
use Rattle.process_build.proofs.Zips.{zip_more}
use Rattle.process_build.proofs.process.setup.args_of.Goals as goal

pub loop-arg-preserved : goal.loop-arg-preserved
loop-arg-preserved c =
    let outputs = c.args.placeholders.now.outputs.now in
    let held = c.loop-arg.invariant in
    record {
      filled =
          subst (AllZip (λ arg filled. IsFilled outputs arg.items (text_bytes filled))
          (take (c.loop-arg.arg-index + 1) c.args.args.now)) (sym c.in_ok-push.ensures.items)
          (zip_more (λ arg filled. IsFilled outputs arg.items (text_bytes filled)) c.args.args.now
          c.loop-arg.texts.items c.loop-arg.arg-index c.arg-item.result _ c.loop-arg-test.true
          c.arg-item.is held.filled
          (subst (λ t. IsFilled outputs t (text_bytes c.in_ok-text.field-0)) c.deref.ensures.value
          c.in_ok-text.ensures.text.0));
      given =
          subst (All (λ t. IsProcessText (text_bytes t))) (sym c.in_ok-push.ensures.items)
          (All-push (λ t. IsProcessText (text_bytes t)) c.loop-arg.texts.items _ held.given
          c.in_ok-text.ensures.text.1);
    }
