use Rattle.std.proofs.Common.{◌∙◌, sym, refl}
use Rattle.lab.proofs.Following.{rising_after, less_from}
use Rattle.lab.proofs.rising.follows.Goals as goal

pub returns-in-Some : goal.returns-in-Some
returns-in-Some c = λ less.
    let below = less_from c.cmp.result (sym c.is_lt.ensures ∙ less) in
    let order = rw (c.text.ensures.value, c.text-in-Some.ensures.value) at c.cmp.ensures in
    rising_after c.args.paths.now _ c.in-Some.last.now c.args.path.now refl
    (sym c.in-Some.ensures.value) (sym order ∙ below)
