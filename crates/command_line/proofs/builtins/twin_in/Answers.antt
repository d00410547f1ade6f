use Rattle.std.proofs.Common.{rules}
use Rattle.command_line.proofs.BuiltinWords.{all_apart, apart_push, twins_not_apart}
use Rattle.command_line.proofs.builtins.twin_in.Goals as goal

pub returns-then-is_named : goal.returns-then-is_named
returns-then-is_named c =
    twins_not_apart c.args.builtins.now c.loop-index.index _ c.loop-index-test.true
    (c.is_named.ensures.0 c.if-is_named.true)

pub loop-index-preserved : goal.loop-index-preserved
loop-index-preserved c =
    apart_push c.args.builtins.now c.loop-index.index _ c.loop-index-test.true
    (λ any. let named = c.is_named.ensures.1 any in search rules) c.loop-index.invariant

pub returns : goal.returns
returns c =
    all_apart c.args.builtins.now c.loop-index.index c.loop-index-test.false c.loop-index.invariant
