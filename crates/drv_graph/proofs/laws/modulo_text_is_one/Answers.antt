use Rattle.drv_graph.proofs.OneText.{one_text}
use Rattle.drv_graph.proofs.laws.modulo_text_is_one.Goals as goal

pub returns : goal.returns
returns c = one_text
