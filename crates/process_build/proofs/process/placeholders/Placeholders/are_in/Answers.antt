use Rattle.std.proofs.Common.{◌≡◌, ◌++◌, All, false, subst, sym, take}
use Rattle.std.proofs.lemmas.List.{take_all, take_more}
use Rattle.process_build.specs.Setups.{IsFilled, begins}
use Rattle.process_build.proofs.Filling.{all_filled, kept_more, rest_is}
use Rattle.process_build.proofs.process.placeholders.Placeholders.are_in.Goals as goal

pub loop-at-preserved : goal.loop-at-preserved
loop-at-preserved c = λ rest filled.
    let text = c.args.text.now in
    let outputs = c.args.self.now.outputs.now in
    subst (λ l. IsFilled outputs text (l ++ rest)) (sym (take_more text c.loop-at.at 0 c.loop-at-test.true))
    (kept_more outputs text (take c.loop-at.at text) c.loop-at.at c.loop-at-test.true
    (subst (λ t. All (λ o. begins t o ≡ false) outputs) (rest_is text c.loop-at.at) c.in-None.ensures)
    c.loop-at.invariant rest filled)

pub returns : goal.returns
returns c = λ _.
    let text = c.args.text.now in
    let outputs = c.args.self.now.outputs.now in
    subst (IsFilled outputs text) (take_all c.loop-at.at text c.loop-at-test.false)
    (all_filled outputs text (take c.loop-at.at text) c.loop-at.at c.loop-at-test.false
    c.loop-at.invariant)
