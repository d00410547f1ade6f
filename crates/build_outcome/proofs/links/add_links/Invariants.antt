-- The indices of the references so far are added.
use Rattle.std.proofs.Common.{take}
use Rattle.build_outcome.specs.private.Linking.{AddsLinks}
use Rattle.build_outcome.proofs.links.add_links.Given as goal

abbrev pub invariant-loop-reference : goal.invariant-loop-reference
invariant-loop-reference l = AddsLinks l.paths.keys (take l.reference-index l.references)
    l.fn.own.items l.own.items
