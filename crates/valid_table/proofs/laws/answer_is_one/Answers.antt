use Rattle.valid_table.proofs.OneAnswer.{answer_is_one}
use Rattle.valid_table.proofs.laws.answer_is_one.Goals as goal

pub returns : goal.returns
returns c = answer_is_one
