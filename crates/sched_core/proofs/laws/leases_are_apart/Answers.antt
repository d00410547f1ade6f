use Rattle.run_states.proofs.Histories.{begins_once, leases_apart, leases_below}
use Rattle.sched_core.proofs.laws.leases_are_apart.Goals as goal

pub returns-clause-begins : goal.returns-clause-begins
returns-clause-begins c = begins_once

pub returns-clause-numbers : goal.returns-clause-numbers
returns-clause-numbers c = leases_apart

pub returns-clause-below : goal.returns-clause-below
returns-clause-below c = leases_below
