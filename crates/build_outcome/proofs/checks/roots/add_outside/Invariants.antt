-- Those of the references so far that are no keys are added.
use Rattle.std.proofs.Common.{take}
use Rattle.build_outcome.specs.private.RootPaths.{AddsOutside}
use Rattle.build_outcome.proofs.checks.roots.add_outside.Given as goal

abbrev pub invariant-loop-reference : goal.invariant-loop-reference
invariant-loop-reference l = AddsOutside l.keys.keys (take l.reference-index l.references)
    l.fn.outside.items l.outside.items
