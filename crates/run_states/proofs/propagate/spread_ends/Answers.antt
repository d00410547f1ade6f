use Rattle.std.proofs.Common.{rules}
use Rattle.run_states.proofs.Telling.{same_then, work_edges, work_taken}
use Rattle.run_states.proofs.propagate.spread_ends.Goals as goal

pub tell_users-edges-requires-clause-told : goal.tell_users-edges-requires-clause-told
tell_users-edges-requires-clause-told c = search (rules, work_taken)

pub loop-ended-preserved : goal.loop-ended-preserved
loop-ended-preserved c = search (rules, work_taken, same_then, work_edges)

pub overflow_add-edges : goal.overflow_add-edges
overflow_add-edges c = search (rules, work_edges)
