use Rattle.std.proofs.Common.{rules}
use Rattle.valid_table.proofs.Keys.{keys_at_end, keys_go_on}
use Rattle.valid_table.proofs.path_table.sort_paths.keys_rise.Goals as goal

pub loop-item-preserved : goal.loop-item-preserved
loop-item-preserved c =
    keys_go_on _ _ _ _ c.loop-item-test.true c.loop-item.invariant c.if-item-last.false

pub returns : goal.returns
returns c = search (rules, keys_at_end)
