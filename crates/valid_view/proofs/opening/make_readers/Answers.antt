use Rattle.std.proofs.Common.{◌≡◌, ◌∙◌, [], ◌∷◌, All, arith, length-append, ap, length, subst, sym}
use Rattle.std.proofs.lemmas.List.Elements.{All-push}
use Rattle.valid_view.specs.Answers.{Knowing}
use Rattle.valid_view.proofs.opening.make_readers.Goals as goal

pub loop-preserved : goal.loop-preserved
loop-preserved g c =
    let readers = c.loop.readers.items in
    let reader : Knowing = c.over.result in
    let items = c.push_reserved.ensures.items in (
      omega (arith, length-append readers (reader ∷ []), c.loop.invariant.0, ap length items),
      c.push_reserved.ensures.capacity ∙ c.loop.invariant.1,
      subst (All (λ (r : Knowing). r.told ≡ c.args.end.now.shown)) (sym items)
          (All-push (λ (r : Knowing). r.told ≡ c.args.end.now.shown) readers reader
          c.loop.invariant.2 (c.over.ensures.told ∙ c.prefix.ensures)),
      subst (All (λ (r : Knowing). r.seen ≡ [])) (sym items)
          (All-push (λ (r : Knowing). r.seen ≡ []) readers reader c.loop.invariant.3
          (c.over.ensures.seen ∙ c.in-Ok.ensures)),
    )
