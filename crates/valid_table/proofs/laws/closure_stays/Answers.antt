use Rattle.valid_table.proofs.ClosureLaws.{closure_stays}
use Rattle.valid_table.proofs.laws.closure_stays.Goals as goal

pub returns : goal.returns
returns c = closure_stays
