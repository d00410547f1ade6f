use Rattle.std.proofs.Common.{rules}
use Rattle.build_outcome.proofs.Linkages.{once_all, once_more, once_none}
use Rattle.build_outcome.proofs.links.each_once.Goals as goal

pub loop-output-init : goal.loop-output-init
loop-output-init c = search (rules, once_none)

pub loop-output-preserved : goal.loop-output-preserved
loop-output-preserved c =
    once_more _ _ _ _
    _ _ c.loop-output-test.true c.output-item.is
    c.in_ok-copy.ensures.same c.loop-output.invariant c.in_ok-insert.ensures.keys
    c.insert.ensures.unique

pub returns : goal.returns
returns c = search (rules, once_all)
