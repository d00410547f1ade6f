use Rattle.std.proofs.Common.{◌≡◌, ◌++◌, All, ap, arith, drop, false, length, subst, sym}
use Rattle.process_build.specs.Setups.{IsFilled, begins}
use Rattle.process_build.specs.private.Placeholders.{IsFoundIn}
use Rattle.process_build.proofs.Filling.{all_filled, found_within, kept_more, replaced_more, rest_is}
use Rattle.process_build.proofs.process.placeholders.Placeholders.replace.Goals as goal

pub loop-at-preserved-in-Some : goal.loop-at-preserved-in-Some
loop-at-preserved-in-Some c =
    let text = c.args.text.now in
    let outputs = c.args.self.now.outputs.now in
    let found : IsFoundIn outputs (drop c.loop-at.at text) c.in-Some.found.now =
    subst (λ t. IsFoundIn outputs t c.in-Some.found.now) (rest_is text c.loop-at.at)
    c.in-Some.ensures in
    let len = ap length c.as_slice-holder.ensures.value in
    record {
      within =
          found_within outputs text c.loop-at.at (length c.as_slice-holder.result.now) c.in-Some.found.now
          c.loop-at.invariant.within len found;
      filled = λ rest filled.
          subst (λ l. IsFilled outputs text (l ++ rest))
          (sym c.in_ok-extend_from_slice-in-Some.ensures.items)
          (replaced_more outputs text c.loop-at.filled.items c.loop-at.at (length c.as_slice-holder.result.now)
          c.in-Some.found.now len found c.loop-at.invariant.filled rest
          filled);
    }

pub loop-at-preserved : goal.loop-at-preserved
loop-at-preserved c =
    let text = c.args.text.now in
    let outputs = c.args.self.now.outputs.now in
    record {
      within = omega arith;
      filled = λ rest filled.
          subst (λ l. IsFilled outputs text (l ++ rest))
          (sym c.in_ok-push-in-None.ensures.items)
          (kept_more outputs text c.loop-at.filled.items c.loop-at.at c.loop-at-test.true
          (subst (λ t. All (λ o. begins t o ≡ false) outputs) (rest_is text c.loop-at.at)
          c.in-None.ensures) c.loop-at.invariant.filled rest filled);
    }

pub returns : goal.returns
returns c =
    all_filled c.args.self.now.outputs.now c.args.text.now c.loop-at.filled.items c.loop-at.at
    c.loop-at-test.false c.loop-at.invariant.filled
