use Rattle.std.proofs.Common.{rules}
use Rattle.valid_table.proofs.TableRows.{row_added}
use Rattle.valid_table.proofs.path_table.rows.add_rows.Goals as goal

pub loop-registration-preserved : goal.loop-registration-preserved
loop-registration-preserved c = search (rules, row_added)
