use Rattle.std.proofs.Common.{rules}
use Rattle.valid_table.proofs.EnteredRows.{row_put}
use Rattle.valid_table.proofs.path_table.rows.put_row.Goals as goal

pub returns : goal.returns
returns c = search (rules, row_put)
