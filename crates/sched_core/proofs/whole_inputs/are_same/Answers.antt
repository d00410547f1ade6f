use Rattle.std.specs.Cmp.Lexicographic.{bytes_decides, pointwise_decides}
use Rattle.sched_core.proofs.whole_inputs.are_same.Goals as goal

pub returns : goal.returns
returns c = rw c.eq.ensures (pointwise_decides bytes_decides c.args.left.now c.args.right.now)
