use Rattle.drv_graph.proofs.Kept.{kept_distinct}
use Rattle.drv_graph.proofs.plans.plan.Plan.output_paths.Goals as goal

pub returns-clause-distinct : goal.returns-clause-distinct
returns-clause-distinct c =
    rw c.deref.ensures.value
    (kept_distinct _ _ _
    _ (rw (← c.self.view_is) at c.requires) c.index.ensures c.self.invariant.0
    c.self.invariant.1)
