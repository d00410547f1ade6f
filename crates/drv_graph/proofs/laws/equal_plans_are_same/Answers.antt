use Rattle.drv_graph.proofs.EqualPlans as equal
use Rattle.drv_graph.proofs.laws.equal_plans_are_same.Goals as goal

pub returns : goal.returns
returns c = equal.equal_plans_are_same c.equal_derivations_are_same.ensures
