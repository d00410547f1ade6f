use Rattle.drv_graph.proofs.OneText.{one_path}
use Rattle.drv_graph.proofs.laws.expected_path_is_one.Goals as goal

pub returns : goal.returns
returns c = one_path
