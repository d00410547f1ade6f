use Rattle.std.proofs.Common.{◌≡◌, length}
use Rattle.run_states.specs.WorkQueues.{AreQueues}
use Rattle.run_states.proofs.work_queues.WorkQueues.drop_begun.Given as goal

abbrev pub invariant-loop-d : goal.invariant-loop-d
invariant-loop-d l = record {
  is : AreQueues l.memos (record {
    ring = l.self-inside.ring.items;
    room = l.self-inside.ring.capacity;
    work = l.self-inside.work.items;
    space = l.self-inside.work.capacity;
    unsettled = l.self-inside.unsettled;
  });
  work : l.self-inside.work.items ≡ l.fn.self.work;
}

abbrev pub decreases-loop-d : goal.decreases-loop-d
decreases-loop-d l = length l.self-inside.ring.items
