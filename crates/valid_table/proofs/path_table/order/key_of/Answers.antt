use Rattle.std.proofs.Common.{rules}
use Rattle.valid_table.proofs.Keys.{key_read}
use Rattle.valid_table.proofs.path_table.order.key_of.Goals as goal

pub returns-in-Some-len8-up : goal.returns-in-Some-len8-up
returns-in-Some-len8-up c = search (rules, key_read)
