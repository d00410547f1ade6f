use Rattle.drv_graph.proofs.Kept.{inputs_smaller}
use Rattle.drv_graph.proofs.plans.plan.Plan.inputs.Goals as goal

pub returns-clause-smaller : goal.returns-clause-smaller
returns-clause-smaller c =
    rw c.deref.ensures.value
    (inputs_smaller _ _ _
    _ (rw (← c.self.view_is) at c.requires) c.index.ensures c.self.invariant)
