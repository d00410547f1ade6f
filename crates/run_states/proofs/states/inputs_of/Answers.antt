use Rattle.std.proofs.Common.{rules}
use Rattle.run_states.proofs.PlanInputs.{numbers_at}
use Rattle.run_states.proofs.states.inputs_of.Goals as goal

pub returns-clause-numbers : goal.returns-clause-numbers
returns-clause-numbers c = search (rules, numbers_at)
