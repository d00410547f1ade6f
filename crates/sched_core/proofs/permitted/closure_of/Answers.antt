use Rattle.sched_core.proofs.Permitting.{only_memory}
use Rattle.sched_core.proofs.permitted.closure_of.Goals as goal

pub unreachable-requires : goal.unreachable-requires
unreachable-requires c =
    c.in_default.not-NoMemory
    (only_memory _ _ _
    (rw c.table.ensures.value c.requires) c.in-Err.ensures)
