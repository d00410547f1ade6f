use Rattle.std.proofs.lemmas.Result.{IfOk-weaker}
use Rattle.sched_core.proofs.Permitting.{union_of_same}
use Rattle.sched_core.proofs.permitted.permitted_beside.Goals as goal

pub returns : goal.returns
returns c = record {
  ok = IfOk-weaker c.union_of.result _ _
      (λ paths union. union_of_same _ _ _ _ c.in_ok-own.ensures.same union) c.union_of.ensures;
}
