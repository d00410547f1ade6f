use Rattle.std.proofs.Common.{◌≡◌, [], length}
use Rattle.run_states.proofs.WorkQueues.{IsOpening}
use Rattle.run_states.proofs.work_queues.WorkQueues.open.Given as goal

abbrev pub invariant-loop-d : goal.invariant-loop-d
invariant-loop-d l = record {
  room : l.ring.capacity ≡ length l.memos;
  work : l.work.items ≡ [];
  space : l.work.capacity ≡ length l.memos;
  is : IsOpening l.memos l.d l.ring.items l.unsettled;
}
