use Rattle.build_outcome.proofs.UsedPaths.{barred_by}
use Rattle.build_outcome.proofs.checks.used_paths.is_barred.Goals as goal

pub returns : goal.returns
returns c = rw c.bars.ensures
    (barred_by _ _ _ _ _ _ c.is_among.ensures c.is_left_out.ensures)
