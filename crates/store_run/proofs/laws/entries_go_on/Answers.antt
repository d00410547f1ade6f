use Rattle.store_run.proofs.RunEntries.{entries_go_on}
use Rattle.store_run.proofs.laws.entries_go_on.Goals as goal

pub returns : goal.returns
returns c = entries_go_on
