use Rattle.drv_graph.proofs.Twins.{twins_share_outputs}
use Rattle.drv_graph.proofs.laws.twins_share_outputs.Goals as goal

pub returns : goal.returns
returns c = twins_share_outputs
