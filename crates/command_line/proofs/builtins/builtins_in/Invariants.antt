use Rattle.std.proofs.Common.{map, take}
use Rattle.command_line.proofs.BuiltinWords.{AreRead}
use Rattle.command_line.proofs.builtins.builtins_in.Given as goal

-- the words so far are read
abbrev pub invariant-loop-word : goal.invariant-loop-word
invariant-loop-word l = AreRead (map (λ w. w.now) (take l.word-index l.words)) l.builtins.items
