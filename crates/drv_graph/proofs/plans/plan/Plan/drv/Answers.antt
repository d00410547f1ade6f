use Rattle.std.proofs.Common.{rules}
use Rattle.drv_graph.proofs.Kept.{kept_drv}
use Rattle.drv_graph.proofs.plans.plan.Plan.drv.Goals as goal

pub returns : goal.returns
returns c = search (rules, kept_drv)
