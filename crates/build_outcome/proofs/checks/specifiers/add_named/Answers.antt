use Rattle.std.proofs.Common.{◌≡◌, ◌∙◌, nat_eq, rules, sym}
use Rattle.std.specs.Cmp.Lexicographic.{pointwise}
use Rattle.nix_names.proofs.Lists.{taken_more}
use Rattle.nix_names.proofs.RisingLists.{equal_from_eq, unequal_from_eq}
use Rattle.build_outcome.proofs.Specifiers.{named_more, named_none, named_other}
use Rattle.build_outcome.proofs.checks.specifiers.add_named.Goals as goal
use Rattle.build_outcome.proofs.checks.specifiers.add_named.Goals.{then-eq+in_ok-copy+in_ok-push, else-eq}

pub loop-output-init : goal.loop-output-init
loop-output-init c = search (rules, named_none)

pub loop-output-preserved : goal.loop-output-preserved
loop-output-preserved c =
    let is : c.eq.result ≡ pointwise nat_eq c.output-item.result.name.items c.args.name.now =
    rw c.as_slice.ensures.value at c.eq.ensures in
    rw (taken_more _ _ _ c.loop-output-test.true c.output-item.is)
    (elim c.if-eq.branch [
      | then-eq+in_ok-copy+in_ok-push w ↦
          rw (w.named-is, w.some-is)
          (named_more _ _ _ _ _ _ _ c.loop-output.invariant
          (equal_from_eq _ _ (sym is ∙ w.if-eq.true))
          (rw w.in_ok-copy.ensures.same at w.in_ok-push.ensures.items))
      | else-eq w ↦
          rw (w.named-is, w.some-is)
          (named_other _ _ _ _ _ _ c.loop-output.invariant
          (unequal_from_eq _ _ (sym is ∙ w.if-eq.false)))
    ])
