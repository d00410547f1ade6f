use Rattle.std.proofs.Common.{◌≡◌, ◌+◌, ℕ, [], length}
use Rattle.run_states.specs.WorkQueues.{AreSameElse, IsSpreading, to_end}
use Rattle.run_states.specs.StateTables.{Awaited}
use Rattle.run_states.specs.FollowedEdges.{open_edges, sizes}
use Rattle.run_states.specs.Users.{users_of_all}
use Rattle.run_states.proofs.propagate.spread_ends.Given as goal

abbrev pub invariant-loop-ended : goal.invariant-loop-ended
invariant-loop-ended l = record {
  told : (awaited : ℕ → Awaited) → IsSpreading awaited l.users l.fn.memos l.fn.queues []
      → IsSpreading awaited l.users l.memos l.queues [];
  same : AreSameElse l.fn.memos l.memos;
  edges : l.edges + open_edges (sizes l.users) l.memos
      + length (users_of_all l.users l.queues.work)
      ≡ open_edges (sizes l.users) l.fn.memos
      + length (users_of_all l.users l.fn.queues.work);
}

abbrev pub decreases-loop-ended : goal.decreases-loop-ended
decreases-loop-ended l = to_end l.memos l.queues
