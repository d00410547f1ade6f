-- The paths of the outputs so far stand there, each once.
use Rattle.std.proofs.Common.{take}
use Rattle.build_outcome.specs.private.Linking.{AreEachOnce}
use Rattle.build_outcome.proofs.links.each_once.Given as goal

abbrev pub invariant-loop-output : goal.invariant-loop-output
invariant-loop-output l = AreEachOnce (take l.output-index l.outputs) l.paths.keys
