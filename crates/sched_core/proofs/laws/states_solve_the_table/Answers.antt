use Rattle.run_states.proofs.StateLaws.{states_agree, states_are_one}
use Rattle.sched_core.proofs.laws.states_solve_the_table.Goals as goal

pub returns-clause-agree : goal.returns-clause-agree
returns-clause-agree c = states_agree

pub returns-clause-one : goal.returns-clause-one
returns-clause-one c = states_are_one
