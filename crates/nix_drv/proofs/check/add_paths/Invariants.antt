use Rattle.std.proofs.Common.{◌≡◌, ◌++◌, map, take}
use Rattle.std.specs.Prelude.{All}
use Rattle.nix_names.specs.StorePaths.{IsPathOf}
use Rattle.nix_drv.specs.Order.{key}
use Rattle.nix_drv.proofs.check.add_paths.Given as goal

abbrev pub invariant-loop-item : goal.invariant-loop-item
invariant-loop-item g l = record {
  added : l.refs.items ≡ l.fn.refs.items ++ map
      (λ item. key g.T.Element.form (g.T.Element.value item)) (take l.item-index l.items);
  good : All (IsPathOf l.dir)
      (map (λ item. key g.T.Element.form (g.T.Element.value item)) (take l.item-index l.items));
}
