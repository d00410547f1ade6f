use Rattle.build_outcome.proofs.RisingIndices.{among_told}
use Rattle.build_outcome.proofs.checks.path_order.is_among.Goals as goal

pub returns : goal.returns
returns c = rw c.is_some.ensures (among_told _ _ _ c.index_among.ensures)
