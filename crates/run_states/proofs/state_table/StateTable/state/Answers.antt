use Rattle.std.proofs.Common.{rules}
use Rattle.run_states.proofs.MemoTables.{state_told}
use Rattle.run_states.proofs.state_table.StateTable.state.Goals as goal

pub returns : goal.returns
returns c = search (rules, state_told)
