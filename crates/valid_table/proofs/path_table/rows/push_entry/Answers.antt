use Rattle.std.proofs.Common.{rules}
use Rattle.valid_table.proofs.TableRows.{next_new}
use Rattle.valid_table.proofs.path_table.rows.push_entry.Goals as goal

pub push_row-requires-clause-new : goal.push_row-requires-clause-new
push_row-requires-clause-new c = search (rules, next_new)
