use Rattle.std.proofs.Common.{◌∙◌, [], ◌∷◌, ◌++◌, ap, arith, inl, inr, sym, rules}
use Rattle.nix_drv.specs.declared.derivation.Output.{Output}
use Rattle.std.proofs.lemmas.Option.{get_or_from_slice_get}
use Rattle.sched_core.proofs.SeedParts.{adds_all, adds_none, output_seen, paths_count_is, read_at}
use Rattle.sched_core.proofs.seeds_of.add_used.Goals as goal
use Rattle.sched_core.proofs.seeds_of.add_used.Goals.{then-uses+in_ok-path+in_ok-push, else-uses}

pub loop-n-init : goal.loop-n-init
loop-n-init c = search (rules, adds_none)

pub loop-n-preserved : goal.loop-n-preserved
loop-n-preserved c =
    output_seen c.args.drv.now.inputs c.args.index c.args.used.now _
    _ _ _ _ _
    _ _ _ c.outputs-outputs.ensures
    c.requires.paths c.loop-n-test.true c.index-outputs-n.is
    (c.deref.ensures.value ∙ ap (λ (o : Output). o.name.items) (sym c.index-outputs-n.is))
    c.uses.ensures
    (elim c.if-uses.branch [
      | then-uses+in_ok-path+in_ok-push w ↦
          inl (
            w.if-uses.true,
            ap (λ v. v.items) w.seeds-is ∙ w.in_ok-push.ensures.items
                ∙ ap (λ p. c.loop-n.seeds.items ++ p ∷ [])
                (w.in_ok-path.ensures.same
                ∙ sym (get_or_from_slice_get c.args.paths.now c.loop-n.n _
                [] (read_at _ _ _
                c.loop-n-test.true w.index-paths-n.is))),
          )
      | else-uses w ↦ inr (w.if-uses.false, ap (λ v. v.items) w.seeds-is)
    ])
    c.loop-n.invariant

pub returns : goal.returns
returns c =
    adds_all c.args.drv.now.inputs c.args.index c.args.used.now _
    c.loop-n.seeds.items c.loop-n.n
    (omega (
      arith,
      c.loop-n-test.false,
      paths_count_is c.args.used.now c.args.paths.now
          c.requires.paths,
    )) c.loop-n.invariant
