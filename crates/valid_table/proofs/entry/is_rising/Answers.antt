use Rattle.std.proofs.Common.{rules}
use Rattle.std.proofs.lemmas.Bool.{false≢true}
use Rattle.valid_table.proofs.SortedOutputs.{rising_at, rising_from_neighbours}
use Rattle.valid_table.proofs.entry.is_rising.Goals as goal

pub returns-then-not-is_lt : goal.returns-then-not-is_lt
returns-then-not-is_lt c = search (rules, false≢true, rising_at)

pub returns : goal.returns
returns c = search (rules, rising_from_neighbours)
