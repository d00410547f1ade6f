use Rattle.std.proofs.Common.{arith, get_or, subst, sym, [], rules}
use Rattle.std.proofs.lemmas.List.{take_more}
use Rattle.std.proofs.lemmas.Option.{slice_get-get_or}
use Rattle.drv_graph.proofs.Counting.{counted_before}
use Rattle.drv_graph.proofs.Loaded.{IsReachedSome, loading_begins, loading_ends, loading_more}
use Rattle.drv_graph.proofs.SameSources.{fault_by, gives_back, walked_by}
use Rattle.drv_graph.proofs.WalkSteps.{gives_itself, gives_trans}
use Rattle.drv_graph.proofs.Ends.{err_is}
use Rattle.drv_graph.proofs.walks.reach.walk_all.Goals as goal

pub roots-init : goal.roots-init
roots-init g c = search (rules, gives_itself, loading_begins)

pub walk-requires-clause-walked : goal.walk-requires-clause-walked
walk-requires-clause-walked g c = search (rules, walked_by, gives_back)

pub returns-in_err-number-clause-walking : goal.returns-in_err-number-clause-walking
returns-in_err-number-clause-walking g c =
    let at = slice_get-get_or _ _ [] c.roots-test.true in
    rw (err_is _ _ c.from_residual.ensures.1)
    (fault_by _ (g.S.DrvSource.gives _)
    (g.S.DrvSource.gives _) c.roots.invariant.keeps _ _
    _
    (c.in_err-number.ensures.walking (get_or c.args.roots.now c.roots.index []) at))

pub returns-in_err-number-clause-device : goal.returns-in_err-number-clause-device
returns-in_err-number-clause-device g c = search (rules, err_is, counted_before)

pub roots-preserved : goal.roots-preserved
roots-preserved g c =
    let at = slice_get-get_or _ _ [] c.roots-test.true in
    record {
      keeps = gives_trans (g.S.DrvSource.gives _)
          (g.S.DrvSource.gives _) (g.S.DrvSource.gives _)
          c.roots.invariant.keeps c.in_ok-number.ensures.keeps;
      counts = omega (arith, c.roots.invariant.counts, c.in_ok-number.ensures.counts);
      some = subst
          (λ done. IsReachedSome c.args.rules.now.profile c.args.rules.now.dir.now
          (g.S.DrvSource.gives c.args.source.now)
          c.args.roots.now done c.walk.new.found c.insert.new.self.keys)
          (sym (take_more _ _ [] c.roots-test.true))
          (loading_more _ (g.S.DrvSource.gives _)
          (g.S.DrvSource.gives _) _
          _ _ _
          _ _ _
          _ c.roots.invariant.keeps c.roots.invariant.some
          (c.in_ok-number.ensures.walking (get_or c.args.roots.now c.roots.index []) at)
          c.in_ok-insert.ensures.keys c.in_ok-insert.ensures.unique);
    }

pub returns-clause-walking : goal.returns-clause-walking
returns-clause-walking g c = search (rules, loading_ends)
