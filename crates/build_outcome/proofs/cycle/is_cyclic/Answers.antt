use Rattle.build_outcome.proofs.Cycles.{told_of}
use Rattle.build_outcome.proofs.Linkages.{links_inner}
use Rattle.build_outcome.proofs.cycle.is_cyclic.Goals as goal

pub has_round-requires : goal.has_round-requires
has_round-requires c = rw c.deref.ensures.value (links_inner _ _ _ c.in_ok-links.ensures)

pub returns : goal.returns
returns c = told_of _ _ _ c.in_ok-links.ensures _ (rw c.deref.ensures.value at c.has_round.ensures)
