use Rattle.std.proofs.Common.{take}
use Rattle.std.specs.List.{AllZip}
use Rattle.process_build.specs.Options.{IsOwnBuiltin}
use Rattle.process_build.proofs.process.builtins.copy_builtins.Given as goal

-- the builtins so far are copied
abbrev pub invariant-loop-builtin : goal.invariant-loop-builtin
invariant-loop-builtin l = AllZip IsOwnBuiltin (take l.builtin-index l.builtins) l.own.items
