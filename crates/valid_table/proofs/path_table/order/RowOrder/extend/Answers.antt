use Rattle.std.proofs.Common.{rules}
use Rattle.valid_table.proofs.FirstRows.{first_moved}
use Rattle.valid_table.proofs.Keys.{keyed_moved}
use Rattle.valid_table.proofs.path_table.order.RowOrder.extend.Goals as goal

pub returns-then-late-len-clause-first : goal.returns-then-late-len-clause-first
returns-then-late-len-clause-first c = search (rules, first_moved)

pub returns-then-late-len-clause-keys : goal.returns-then-late-len-clause-keys
returns-then-late-len-clause-keys c = search (rules, keyed_moved)
