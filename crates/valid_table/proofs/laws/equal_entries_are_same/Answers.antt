use Rattle.valid_table.proofs.EqualEntries as equal
use Rattle.valid_table.proofs.laws.equal_entries_are_same.Goals as goal

pub returns : goal.returns
returns c = equal.equal_entries_are_same
