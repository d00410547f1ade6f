use Rattle.nix_realise.proofs.CheckGroups.{lines_more}
use Rattle.nix_realise.proofs.queries.check.Report.add_group.Goals as goal

pub loop-i-preserved : goal.loop-i-preserved
loop-i-preserved c =
    lines_more _ _ _ _ _ _ _ _ _ _ c.loop-i-test.true c.index-asked-i.is c.loop-i.invariant
    c.in_ok-add_word.ensures.added
