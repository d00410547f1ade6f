use Rattle.std.proofs.Common.{rules, subst}
use Rattle.std.proofs.lemmas.List.{take_all}
use Rattle.nix_names.proofs.Lists.{Contains-from_get, taken_more}
use Rattle.build_outcome.specs.private.RootPaths.{AddsOutside}
use Rattle.build_outcome.proofs.RootPaths.{adds_no_key, adds_nothing, adds_outside}
use Rattle.build_outcome.proofs.checks.roots.add_outside.Goals as goal
use Rattle.build_outcome.proofs.checks.roots.add_outside.Goals.{in-Some, in-None+in_ok-copy-in-None+in_ok-push-in-None}

pub loop-reference-init : goal.loop-reference-init
loop-reference-init c = search (rules, adds_nothing)

pub loop-reference-preserved : goal.loop-reference-preserved
loop-reference-preserved c =
    rw (taken_more _ _ _
    c.loop-reference-test.true c.reference-item.is)
    (elim c.match-index_of.branch [
      | in-Some w ↦ rw w.outside-is
          (adds_no_key _ _ _ _ _ c.loop-reference.invariant
          (Contains-from_get _ _ _ w.in-Some.ensures))
      | in-None+in_ok-copy-in-None+in_ok-push-in-None w ↦
          rw (w.outside-is, w.in_ok-push-in-None.ensures.items, w.in_ok-copy-in-None.ensures.same)
          (adds_outside _ _ _ _ _ c.loop-reference.invariant w.in-None.ensures)
    ])

pub returns : goal.returns
returns c = subst (λ refs. AddsOutside c.args.keys.now.keys refs c.args.outside.now.items
    c.loop-reference.outside.items)
    (take_all c.loop-reference.reference-index c.args.references.now c.loop-reference-test.false)
    c.loop-reference.invariant
