use Rattle.std.proofs.Common.{◌∙◌, ap, arith, inl, inr, sym}
use Rattle.nix_drv.specs.declared.derivation.Output.{Output}
use Rattle.sched_core.proofs.Followed.{element_none, element_some, used_all, used_step}
use Rattle.sched_core.proofs.SeedParts.{paths_count_is}
use Rattle.sched_core.proofs.has_seeds.rest_after_used.Goals as goal
use Rattle.sched_core.proofs.has_seeds.rest_after_used.Goals.{then-uses+in-Some, then-uses+in-None, else-uses}

pub loop-n-preserved : goal.loop-n-preserved
loop-n-preserved c =
    used_step c.args.drv.now.inputs c.args.index c.args.used.now _ _
    _ _
    _ _ _ _ _
    c.outputs-outputs.ensures c.requires.paths c.loop-n-test.true c.index-outputs-n.is
    (c.deref.ensures.value ∙ ap (λ (o : Output). o.name.items) (sym c.index-outputs-n.is))
    c.uses.ensures
    (elim c.if-uses.branch [
      | then-uses+in-Some w ↦
          inl (
            w.if-uses.true,
            element_some _ _ _ _
                _ _ _ c.loop-n-test.true
                w.index-paths-n.is w.in-Some.is
                w.rest_after_path-left.ensures w.left-is,
          )
      | then-uses+in-None w ↦ inl (
        w.if-uses.true,
        element_none _ _ c.args.paths.now c.loop-n.n w.in-None.is
            w.left-is,
      )
      | else-uses w ↦ inr (w.if-uses.false, w.left-is)
    ])
    c.loop-n.invariant

pub returns : goal.returns
returns c =
    used_all c.args.drv.now.inputs c.args.index c.args.used.now _ _
    _
    (omega (
      arith,
      c.loop-n-test.false,
      paths_count_is c.args.used.now _
          c.requires.paths,
    )) c.loop-n.invariant
