use Rattle.std.proofs.Common.{◌+◌, subst, sym, take}
use Rattle.std.specs.List.{AllZip}
use Rattle.process_build.specs.Options.{IsOwnBuiltin}
use Rattle.process_build.proofs.Zips.{zip_next}
use Rattle.process_build.proofs.process.builtins.copy_builtins.Goals as goal

pub loop-builtin-preserved : goal.loop-builtin-preserved
loop-builtin-preserved c =
    subst (AllZip IsOwnBuiltin (take (c.loop-builtin.builtin-index + 1) c.args.builtins.now))
    (sym c.in_ok-push.ensures.items)
    (zip_next IsOwnBuiltin c.args.builtins.now c.loop-builtin.own.items c.loop-builtin.builtin-index _
    _ c.loop-builtin-test.true c.loop-builtin.invariant c.in_ok-own_builtin.ensures)
