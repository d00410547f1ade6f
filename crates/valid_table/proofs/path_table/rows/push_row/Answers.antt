use Rattle.std.proofs.Common.{rules}
use Rattle.valid_table.proofs.TableRows.{on_ok, row_pushed}
use Rattle.valid_table.proofs.path_table.rows.push_row.Goals as goal

pub returns-clause-rows : goal.returns-clause-rows
returns-clause-rows c = search (rules, row_pushed, on_ok)
