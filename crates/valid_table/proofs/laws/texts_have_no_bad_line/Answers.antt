use Rattle.valid_table.proofs.BadLineLaws.{texts_have_no_bad_line}
use Rattle.valid_table.proofs.laws.texts_have_no_bad_line.Goals as goal

pub returns : goal.returns
returns c = texts_have_no_bad_line
