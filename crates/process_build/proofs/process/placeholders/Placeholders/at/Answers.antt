use Rattle.std.proofs.Common.{◌≡◌, ◌∙◌, ◌<◌, ◌≤◌, All, false, get_or, length, subst, sym, true}
use Rattle.std.specs.Prelude.{nat_eq}
use Rattle.std.specs.List.{starts_with}
use Rattle.std.proofs.lemmas.List.{take_all}
use Rattle.std.proofs.lemmas.List.Elements.{All-more}
use Rattle.process_build.proofs.Filling.{found_in, none_begins}
use Rattle.process_build.proofs.process.placeholders.Placeholders.at.Goals as goal

pub returns-then-starts_with : goal.returns-then-starts_with
returns-then-starts_with c =
    let items = c.deref-placeholder-items.ensures.value in
    let index = c.loop-placeholder.placeholder-index in
    let one = c.placeholder-item.result in
    found_in c.args.self.now.outputs.now c.args.self.now.all.items c.args.text.now index one
    c.requires (subst (λ l. index < length l) items c.loop-placeholder-test.true)
    (subst (λ l. one ≡ get_or l index one) items c.placeholder-item.is)
    (subst (λ n. starts_with nat_eq c.args.text.now n ≡ true) c.deref.ensures.value
    (sym c.starts_with.ensures.value ∙ c.if-starts_with.true))

pub loop-placeholder-preserved : goal.loop-placeholder-preserved
loop-placeholder-preserved c =
    let items = c.deref-placeholder-items.ensures.value in
    let index = c.loop-placeholder.placeholder-index in
    let one = c.placeholder-item.result in
    All-more (λ p. starts_with nat_eq c.args.text.now p.text.items ≡ false)
    c.args.self.now.all.items index one
    (subst (λ l. index < length l) items c.loop-placeholder-test.true)
    c.loop-placeholder.invariant
    (subst (λ p. starts_with nat_eq c.args.text.now p.text.items ≡ false)
    (subst (λ l. one ≡ get_or l index one) items c.placeholder-item.is)
    (subst (λ n. starts_with nat_eq c.args.text.now n ≡ false) c.deref.ensures.value
    (sym c.starts_with.ensures.value ∙ c.if-starts_with.false)))

pub returns : goal.returns
returns c =
    none_begins c.args.self.now.outputs.now c.args.self.now.all.items c.args.text.now c.requires
    (subst (All (λ p. starts_with nat_eq c.args.text.now p.text.items ≡ false))
    (take_all c.loop-placeholder.placeholder-index c.args.self.now.all.items
    (subst (λ l. length l ≤ c.loop-placeholder.placeholder-index)
    c.deref-placeholder-items.ensures.value c.loop-placeholder-test.false))
    c.loop-placeholder.invariant)
