use Rattle.std.proofs.Common.{◌≡◌, ◌∙◌, ◌++◌, None, refl, sym}
use Rattle.std.proofs.lemmas.Option.{slice_get_read}
use Rattle.build_outcome.specs.Checks.{nar_at}
use Rattle.build_outcome.proofs.RisingIndices.{barred_told, none_at_all, none_more}
use Rattle.build_outcome.proofs.Sizes.{none_told, some_told}
use Rattle.build_outcome.proofs.checks.sizes.ClosureNars.first_unknown.Goals as goal

pub returns-then-is_none : goal.returns-then-is_none
returns-then-is_none c = λ known are.
    barred_told c.args.permitted.now c.args.paths.now
    (λ p. nar_at (known ++ c.args.self.now.others.now) p ≡ None) _ _ _ c.requires.permitted
    c.requires.paths (slice_get_read _ _ _ _ refl c.loop-path-test.true c.path-item.is)
    (sym (c.nar_of.ensures known are) ∙ none_told _ c.if-is_none.ensures)
    (c.loop-path.invariant known are) c.index_among.ensures

pub loop-path-preserved : goal.loop-path-preserved
loop-path-preserved c = λ known are.
    none_more c.args.paths.now (λ p. nar_at (known ++ c.args.self.now.others.now) p ≡ None) _ _
    (c.loop-path.invariant known are)
    (slice_get_read _ _ _ _ refl c.loop-path-test.true c.path-item.is)
    (λ none. some_told _ c.if-is_none.ensures (c.nar_of.ensures known are ∙ none))

pub returns : goal.returns
returns c = λ known are.
    none_at_all c.args.paths.now (λ p. nar_at (known ++ c.args.self.now.others.now) p ≡ None) _
    (c.loop-path.invariant known are) c.loop-path-test.false
