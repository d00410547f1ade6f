use Rattle.valid_table.proofs.BadLineLaws.{bad_line_is_one}
use Rattle.valid_table.proofs.laws.bad_line_is_one.Goals as goal

pub returns : goal.returns
returns c = bad_line_is_one
