-- The paths of the outputs so far with the name are added.
use Rattle.std.proofs.Common.{take}
use Rattle.build_outcome.specs.private.Listing.{AddsNamed}
use Rattle.build_outcome.proofs.checks.specifiers.add_named.Given as goal

abbrev pub invariant-loop-output : goal.invariant-loop-output
invariant-loop-output l = AddsNamed (take l.output-index l.outputs) l.name l.fn.named.items
    l.named.items l.some
