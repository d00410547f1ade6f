use Rattle.process_build.specs.private.HeardOutputs.{AreOutputsHeard}
use Rattle.process_build.proofs.disk.heard_outputs.hear_outputs.Given as goal

-- what was heard of the outputs so far
abbrev pub invariant-loop-output : goal.invariant-loop-output
invariant-loop-output g l = AreOutputsHeard l.job l.permitted l.output-index l.heard.items
