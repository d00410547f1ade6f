use Rattle.run_states.proofs.Registering.{entries_are_journal}
use Rattle.sched_core.proofs.laws.entries_are_a_journal.Goals as goal

pub returns : goal.returns
returns c = entries_are_journal
