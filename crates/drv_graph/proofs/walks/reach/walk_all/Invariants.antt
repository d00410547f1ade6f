-- What the first roots reach was left.
use Rattle.std.proofs.Common.{◌≤◌, take}
use Rattle.nix_drv.specs.Sources.{GivesSame}
use Rattle.drv_graph.proofs.Loaded.{IsReachedSome}
use Rattle.drv_graph.proofs.walks.reach.walk_all.Given as goal

abbrev pub invariant-roots : goal.invariant-roots
invariant-roots g l = record {
  keeps : GivesSame (g.S.DrvSource.gives l.fn.source) (g.S.DrvSource.gives l.source);
  counts : g.S.DrvSource.failures l.fn.source ≤ g.S.DrvSource.failures l.source;
  some : IsReachedSome l.rules.profile l.rules.dir.now (g.S.DrvSource.gives l.fn.source) l.roots
      (take l.index l.roots)
      l.found l.numbers.keys;
}
