use Rattle.valid_table.proofs.OneAnswer.{journal_texts_are_read}
use Rattle.valid_table.proofs.laws.journal_texts_are_read.Goals as goal

pub returns : goal.returns
returns c = journal_texts_are_read
