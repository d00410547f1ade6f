use Rattle.std.proofs.Common.{rules}
use Rattle.valid_table.proofs.FirstRows.{first_none}
use Rattle.valid_table.proofs.Keys.{none_keyed}
use Rattle.valid_table.proofs.path_table.table.Table.of_rows.Goals as goal

pub invariant_of-result : goal.invariant_of-result
invariant_of-result c = search (rules, first_none, none_keyed)
