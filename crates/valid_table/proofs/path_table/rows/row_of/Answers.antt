use Rattle.std.proofs.Common.{rules}
use Rattle.valid_table.proofs.RowNumbers.{row_found}
use Rattle.valid_table.proofs.path_table.rows.row_of.Goals as goal

pub returns : goal.returns
returns c = search (rules, row_found)
