-- The outputs of the first inputs were added.
use Rattle.builder_start.proofs.GraphStarts.{AreFirstOutputs}
use Rattle.builder_start.proofs.starts.outputs_among.Given as goal

abbrev pub invariant-inputs : goal.invariant-inputs
invariant-inputs l = AreFirstOutputs l.paths l.whole l.input-index l.outputs.items
