use Rattle.drv_graph.proofs.OneHashes.{one_hashes}
use Rattle.drv_graph.proofs.laws.modulo_hashes_are_one.Goals as goal

pub returns : goal.returns
returns c = one_hashes
