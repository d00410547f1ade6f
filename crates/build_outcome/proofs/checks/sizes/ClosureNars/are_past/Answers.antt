use Rattle.std.proofs.Common.{◌≡◌, ◌∙◌, ◌+◌, ◌<◌, ◌++◌, ap, arith, refl, subst, sym}
use Rattle.std.proofs.lemmas.Bool.{false≢true}
use Rattle.std.proofs.lemmas.List.{take_all}
use Rattle.build_outcome.specs.Checks.{size_of, size_of_all}
use Rattle.build_outcome.proofs.Sizes.{left_more, past_now}
use Rattle.build_outcome.proofs.checks.sizes.ClosureNars.are_past.Goals as goal

pub returns-in-None : goal.returns-in-None
returns-in-None c = λ known are.
    let less : c.loop-path.left < c.size_of.result = omega (arith, c.in-None.ensures) in (
      λ _. past_now (known ++ c.args.self.now.others.now) c.args.paths.now c.loop-path.path-index
          c.args.limit c.loop-path.left c.path-item.result c.size_of.result
          c.loop-path-test.true (sym c.path-item.is) (c.loop-path.invariant known are)
          (c.size_of.ensures ∙ ap size_of (c.nar_of.ensures known are)) less,
      λ _. refl,
    )

pub loop-path-preserved : goal.loop-path-preserved
loop-path-preserved c = λ known are.
    let less : c.in-Some.rest + c.size_of.result ≡ c.loop-path.left =
    omega (arith, c.in-Some.ensures.0, c.in-Some.ensures.1) in
    left_more (known ++ c.args.self.now.others.now) c.args.paths.now c.loop-path.path-index
    c.args.limit c.loop-path.left c.in-Some.rest c.path-item.result c.size_of.result
    c.loop-path-test.true (sym c.path-item.is) (c.loop-path.invariant known are)
    (c.size_of.ensures ∙ ap size_of (c.nar_of.ensures known are)) less

pub returns : goal.returns
returns c = λ known are.
    let sum : c.loop-path.left
    + size_of_all (known ++ c.args.self.now.others.now) c.args.paths.now ≡ c.args.limit =
    subst (λ l. c.loop-path.left + size_of_all (known ++ c.args.self.now.others.now) l ≡ c.args.limit)
    (take_all c.loop-path.path-index c.args.paths.now c.loop-path-test.false)
    (c.loop-path.invariant known are) in
    (λ no. absurd (false≢true no), λ past. absurd (omega (arith, sum, past)))
