use Rattle.build_outcome.proofs.Knowns.{trees_known, trees_missing}
use Rattle.build_outcome.proofs.known_outputs.Outputs.known_at.Goals as goal

pub returns-in-Some : goal.returns-in-Some
returns-in-Some c job permitted answer known below =
    trees_known job permitted answer c.in-Trees.answer c.in-Trees.sums c.args.n c.in-Some.left
    c.sum_at.result (rw c.in-Trees.is at known) below c.in-Some.ensures c.sum_at.ensures

pub returns-in-Heard : goal.returns-in-Heard
returns-in-Heard c job permitted answer known below =
    c.heard_at.ensures job permitted answer (rw c.in-Heard.is at known)
