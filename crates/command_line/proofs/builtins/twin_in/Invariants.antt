use Rattle.std.proofs.Common.{map, take}
use Rattle.command_line.specs.Builtins.{AreApart}
use Rattle.command_line.specs.declared.options.Builtin.{Builtin}
use Rattle.command_line.proofs.builtins.twin_in.Given as goal

-- no two of the names so far are the same
abbrev pub invariant-loop-index : goal.invariant-loop-index
invariant-loop-index l = AreApart (map (λ (b : Builtin). b.name.now) (take l.index l.builtins))
