use Rattle.std.proofs.Common.{rules}
use Rattle.run_states.proofs.LookUps.{told_valid}
use Rattle.run_states.proofs.preconditions.is_valid.Goals as goal

pub returns : goal.returns
returns c = search (rules, told_valid)
