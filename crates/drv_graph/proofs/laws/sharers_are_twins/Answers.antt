use Rattle.drv_graph.proofs.Twins.{sharers_are_twins}
use Rattle.drv_graph.proofs.laws.sharers_are_twins.Goals as goal

pub returns : goal.returns
returns c = sharers_are_twins
