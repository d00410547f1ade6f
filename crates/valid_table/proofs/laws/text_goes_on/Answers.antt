use Rattle.valid_table.proofs.WrittenTexts as written
use Rattle.valid_table.proofs.laws.text_goes_on.Goals as goal

pub returns : goal.returns
returns c = written.text_goes_on
