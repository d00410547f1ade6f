use Rattle.std.proofs.Common.{◌∙◌, sym}
use Rattle.run_states.proofs.WorkQueues.{ring_falls_at}
use Rattle.run_states.proofs.work_queues.WorkQueues.drop_begun.Goals as goal

pub loop-d-preserved : goal.loop-d-preserved
loop-d-preserved c =
    let falls = ring_falls_at _ _ _ _
    (sym c.in-Some.ensures) (sym c.is_ready.ensures ∙ c.if-is_ready.false)
    c.loop-d.invariant.is in
    record {
      is = rw c.pop_front.ensures.items falls;
      work = c.loop-d.invariant.work;
    }
