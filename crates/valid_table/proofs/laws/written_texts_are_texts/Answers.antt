use Rattle.valid_table.proofs.WrittenTexts as written
use Rattle.valid_table.proofs.laws.written_texts_are_texts.Goals as goal

pub returns : goal.returns
returns c = written.written_texts_are_texts
