use Rattle.drv_graph.proofs.FirstTwins.{twins_are_told}
use Rattle.drv_graph.proofs.laws.twins_are_told.Goals as goal

pub returns : goal.returns
returns c = twins_are_told
