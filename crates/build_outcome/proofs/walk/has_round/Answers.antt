use Rattle.std.proofs.Common.{arith}
use Rattle.build_outcome.proofs.Walks.{all_grounded, walk_none}
use Rattle.build_outcome.proofs.walk.has_round.Goals as goal

pub loop-start-init : goal.loop-start-init
loop-start-init c =
    record {
      walk = walk_none c.args.links.now c.in_ok-nodes.nodes.items c.in_ok-nodes.ensures;
      met = λ n below. absurd (omega arith);
    }

pub returns : goal.returns
returns c = all_grounded c.args.links.now c.loop-start.nodes.items c.loop-start.invariant.walk
    (λ n below. c.loop-start.invariant.met n (omega (arith, c.loop-start-test.false)))
