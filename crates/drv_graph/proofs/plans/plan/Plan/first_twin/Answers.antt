use Rattle.std.proofs.Common.{rules}
use Rattle.drv_graph.proofs.Kept.{kept_first, kept_first_within}
use Rattle.drv_graph.proofs.plans.plan.Plan.first_twin.Goals as goal

pub returns-clause-value : goal.returns-clause-value
returns-clause-value c = search (rules, kept_first)

pub returns-clause-within : goal.returns-clause-within
returns-clause-within c = search (rules, kept_first_within)
