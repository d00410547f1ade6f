use Rattle.std.proofs.Common.{◌≡◌, ◌+◌, ℕ, drop, length}
use Rattle.run_states.specs.WorkQueues.{AreSameElse, IsSpreading, to_end}
use Rattle.run_states.specs.StateTables.{Awaited}
use Rattle.run_states.specs.StateLists.{kept}
use Rattle.run_states.specs.States.{is_good}
use Rattle.run_states.specs.NodeStates.{states_in}
use Rattle.run_states.specs.FollowedEdges.{open_edges, sizes}
use Rattle.run_states.specs.Users.{users_of, users_of_all}
use Rattle.run_states.proofs.propagate.tell_users.Given as goal

abbrev pub invariant-loop-edge : goal.invariant-loop-edge
invariant-loop-edge l = record {
  items : l.edges ≡ users_of l.users l.ended;
  count : length l.memos ≡ length l.fn.memos;
  good : l.good ≡ is_good (kept (states_in l.memos) l.ended);
  told : (awaited : ℕ → Awaited)
      → IsSpreading awaited l.users l.fn.memos l.fn.queues (users_of l.users l.ended)
      → IsSpreading awaited l.users l.memos l.queues
      (drop l.edge-index (users_of l.users l.ended));
  same : AreSameElse l.fn.memos l.memos;
  measure : to_end l.memos l.queues ≡ to_end l.fn.memos l.fn.queues;
  ahead : open_edges (sizes l.users) l.memos + length (users_of_all l.users l.queues.work)
      ≡ open_edges (sizes l.users) l.fn.memos
      + length (users_of_all l.users l.fn.queues.work);
}
