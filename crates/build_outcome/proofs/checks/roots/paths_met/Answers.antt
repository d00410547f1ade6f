use Rattle.std.proofs.Common.{◌∙◌, rules, subst, sym}
use Rattle.std.proofs.lemmas.Bool.{false≢true}
use Rattle.std.proofs.lemmas.List.{take_all}
use Rattle.nix_names.proofs.Lists.{taken_more}
use Rattle.build_outcome.proofs.RootPaths.{AreMet, met_more, met_none, met_other}
use Rattle.build_outcome.proofs.checks.roots.paths_met.Goals as goal
use Rattle.build_outcome.proofs.checks.roots.paths_met.Goals.{then-is_met+in_ok-copy+in_ok-push, else-is_met}

pub loop-output-init : goal.loop-output-init
loop-output-init c = search (rules, met_none)

pub loop-output-preserved : goal.loop-output-preserved
loop-output-preserved c =
    rw (taken_more _ _ _
    c.loop-output-test.true c.output-item.is)
    (elim c.if-is_met.branch [
      | then-is_met+in_ok-copy+in_ok-push w ↦
          rw (w.met-is, w.in_ok-push.ensures.items, w.in_ok-copy.ensures.same)
          (met_more _ _ _ _ _ c.loop-output.invariant (c.is_met.ensures.0 w.if-is_met.true))
      | else-is_met w ↦ rw w.met-is
          (met_other _ _ _ _ _ c.loop-output.invariant
          (λ is. false≢true (sym w.if-is_met.false ∙ c.is_met.ensures.1 is)))
    ])

pub returns : goal.returns
returns c = subst (λ l. AreMet l c.args.keys.now.keys c.args.marks.now c.loop-output.met.items)
    (take_all c.loop-output.output-index c.args.outputs.now c.loop-output-test.false)
    c.loop-output.invariant
