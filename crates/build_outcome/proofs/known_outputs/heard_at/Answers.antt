use Rattle.build_outcome.proofs.HeardAnswers.{heard_known, heard_missing}
use Rattle.build_outcome.proofs.known_outputs.heard_at.Goals as goal

pub returns-in-Some : goal.returns-in-Some
returns-in-Some c job permitted answer kept =
    heard_known job permitted answer c.args.outputs.now c.args.n c.in-Some.output.now kept
    c.in-Some.ensures

pub returns-in-None : goal.returns-in-None
returns-in-None c job permitted answer kept =
    heard_missing job permitted answer c.args.outputs.now c.args.n kept c.in-None.ensures
