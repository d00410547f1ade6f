use Rattle.std.proofs.Common.{◌∙◌, ◌++◌, ◌∷◌, [], List, ℕ, ap, rules}
use Rattle.std.proofs.lemmas.Result.{err_from_is_err_and}
use Rattle.nix_drv.specs.Order.{key}
use Rattle.nix_drv.proofs.CheckedPaths.{added_more, fault_at, good_more}
use Rattle.nix_drv.proofs.check.add_paths.Goals as goal

pub loop-item-preserved : goal.loop-item-preserved
loop-item-preserved g c = record {
  added = added_more (λ item. key g.T.Element.form (g.T.Element.value item)) _ _ _ _ _
      _ _ c.loop-item-test.true c.item-item.is c.key.ensures
      c.loop-item.invariant.added
      (c.in_ok-push.ensures.items ∙ ap (λ (path : List ℕ). c.loop-item.refs.items ++ path ∷ [])
      c.in_ok-parse_reference.ensures.ok.0);
  good = good_more (λ item. key g.T.Element.form (g.T.Element.value item)) _ _ _
      _ _ c.loop-item-test.true c.item-item.is c.key.ensures
      c.loop-item.invariant.good c.in_ok-parse_reference.ensures.ok.1;
}

pub returns-in_err-parse_reference-clause-err : goal.returns-in_err-parse_reference-clause-err
returns-in_err-parse_reference-clause-err g c = search (rules, err_from_is_err_and, fault_at)
