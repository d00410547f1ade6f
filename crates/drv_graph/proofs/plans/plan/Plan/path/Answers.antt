use Rattle.std.proofs.Common.{rules}
use Rattle.drv_graph.proofs.Kept.{kept_named, kept_path}
use Rattle.drv_graph.proofs.plans.plan.Plan.path.Goals as goal

pub returns-clause-value : goal.returns-clause-value
returns-clause-value c = search (rules, kept_path)

pub returns-clause-sound : goal.returns-clause-sound
returns-clause-sound c =
    kept_named _ _ _ _
    (rw (← c.self.view_is) at c.requires) c.index.ensures c.self.invariant.1
