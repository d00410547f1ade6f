use Rattle.std.proofs.Common.{rules}
use Rattle.run_states.proofs.MemoTables.{next_told}
use Rattle.run_states.proofs.state_table.StateTable.next.Goals as goal

pub returns : goal.returns
returns c = search (rules, next_told)
