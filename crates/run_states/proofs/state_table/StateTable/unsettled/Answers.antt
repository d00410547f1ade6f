use Rattle.std.proofs.Common.{rules}
use Rattle.run_states.proofs.MemoTables.{unsettled_told}
use Rattle.run_states.proofs.state_table.StateTable.unsettled.Goals as goal

pub returns : goal.returns
returns c = search (rules, unsettled_told)
