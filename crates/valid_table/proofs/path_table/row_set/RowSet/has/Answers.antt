use Rattle.std.proofs.Common.{rules}
use Rattle.valid_table.proofs.Marks.{bit_test}
use Rattle.valid_table.proofs.path_table.row_set.RowSet.has.Goals as goal

pub returns-in-Some : goal.returns-in-Some
returns-in-Some c = search (rules, bit_test)
