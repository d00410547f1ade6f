use Rattle.drv_graph.proofs.Twins.{fixed_twins_have_one_hash}
use Rattle.drv_graph.proofs.laws.fixed_twins_have_one_hash.Goals as goal

pub returns : goal.returns
returns c = fixed_twins_have_one_hash
