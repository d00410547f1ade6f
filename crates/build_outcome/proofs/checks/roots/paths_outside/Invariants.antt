-- What the outputs so far refer to, where they are met, stands there.
use Rattle.build_outcome.proofs.RootPaths.{AreOutside}
use Rattle.build_outcome.proofs.checks.roots.paths_outside.Given as goal

abbrev pub invariant-loop-n : goal.invariant-loop-n
invariant-loop-n l = AreOutside l.outputs l.records l.keys.keys l.marks l.n l.outside.items
