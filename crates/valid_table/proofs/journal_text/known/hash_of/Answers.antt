use Rattle.valid_table.proofs.NarTexts.{no_digits}
use Rattle.valid_table.proofs.journal_text.known.hash_of.Goals as goal

pub returns-in-None : goal.returns-in-None
returns-in-None c = no_digits _ c.in-None.ensures
