use Rattle.std.proofs.lemmas.Result.{IfOk-weaker}
use Rattle.sched_core.proofs.Permitting.{are_permitted}
use Rattle.sched_core.proofs.permitted.permitted_to.Goals as goal

pub returns : goal.returns
returns c = record {
  ok = IfOk-weaker c.permitted_beside.result _ _
      (λ paths union. are_permitted _ _ _ _ _
      (rw c.deref.ensures.value at c.in_ok-reached.ensures) union)
      c.permitted_beside.ensures.ok;
}
