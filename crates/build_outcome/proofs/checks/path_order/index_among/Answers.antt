use Rattle.build_outcome.proofs.RisingIndices.{index_found, index_missing}
use Rattle.build_outcome.proofs.checks.path_order.index_among.Goals as goal

pub returns-in-Ok : goal.returns-in-Ok
returns-in-Ok c = index_found _ _ _ c.in-Ok.ensures.bound c.in-Ok.ensures.ok

pub returns-in-Err : goal.returns-in-Err
returns-in-Err c = index_missing _ _ _ c.requires c.in-Err.ensures.bound c.in-Err.ensures.position
