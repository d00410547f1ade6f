use Rattle.process_build.proofs.HeardOutputs.{outputs_begun, outputs_more}
use Rattle.process_build.proofs.disk.heard_outputs.hear_outputs.Goals as goal

pub loop-output-init : goal.loop-output-init
loop-output-init g c = outputs_begun _ _ _ c.new-heard.ensures.items

pub loop-output-preserved : goal.loop-output-preserved
loop-output-preserved g c =
    outputs_more _ _ _ _ _ _ c.in_ok-push.ensures.items c.loop-output.invariant
    c.in_ok-hear_output.ensures.heard
