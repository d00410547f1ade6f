use Rattle.valid_table.proofs.ClosureLaws.{closure_is_one}
use Rattle.valid_table.proofs.laws.closure_is_one.Goals as goal

pub returns : goal.returns
returns c = closure_is_one
