-- Those of the outputs so far that are met stand there.
use Rattle.std.proofs.Common.{take}
use Rattle.build_outcome.proofs.RootPaths.{AreMet}
use Rattle.build_outcome.proofs.checks.roots.paths_met.Given as goal

abbrev pub invariant-loop-output : goal.invariant-loop-output
invariant-loop-output l = AreMet (take l.output-index l.outputs) l.keys.keys l.marks l.met.items
