use Rattle.valid_table.proofs.OneList.{text_has_one_list}
use Rattle.valid_table.proofs.laws.text_has_one_list.Goals as goal

pub returns : goal.returns
returns c = text_has_one_list
