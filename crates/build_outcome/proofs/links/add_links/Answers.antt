use Rattle.std.proofs.Common.{subst, rules}
use Rattle.std.proofs.lemmas.List.{take_all}
use Rattle.nix_names.proofs.Lists.{taken_more}
use Rattle.build_outcome.specs.private.Linking.{AddsLinks}
use Rattle.build_outcome.proofs.Linkages.{adds_no_index, adds_none, adds_index}
use Rattle.build_outcome.proofs.links.add_links.Goals as goal
use Rattle.build_outcome.proofs.links.add_links.Goals.{in-Some+in_ok-push, in_default}

pub loop-reference-init : goal.loop-reference-init
loop-reference-init c = search (rules, adds_none)

pub loop-reference-preserved : goal.loop-reference-preserved
loop-reference-preserved c =
    rw (taken_more _ _ _
    c.loop-reference-test.true c.reference-item.is)
    (elim c.match-index_of.branch [
      | in-Some+in_ok-push w ↦
          rw w.own-is
          (adds_index _ _ _ _
          _ _ _ c.requires c.loop-reference.invariant
          w.in-Some.ensures w.in_ok-push.ensures.items)
      | in_default w ↦ rw w.own-is
          (adds_no_index _ _ _ _
          _ c.loop-reference.invariant w.in_default.ensures)
    ])

pub returns : goal.returns
returns c = subst (λ refs. AddsLinks c.args.paths.now.keys refs c.args.own.now.items
    c.loop-reference.own.items)
    (take_all c.loop-reference.reference-index c.args.references.now c.loop-reference-test.false)
    c.loop-reference.invariant
