use Rattle.std.proofs.Common.{rules}
use Rattle.valid_table.proofs.TableRows.{has_row_says}
use Rattle.valid_table.proofs.path_table.rows.has_row.Goals as goal

pub returns : goal.returns
returns c = search (rules, has_row_says)
