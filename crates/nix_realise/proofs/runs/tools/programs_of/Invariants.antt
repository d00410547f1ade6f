use Rattle.std.proofs.Common.{take}
use Rattle.nix_realise.specs.Tools.{ArePrograms}
use Rattle.nix_realise.proofs.runs.tools.programs_of.Given as goal

-- the programs so far
abbrev pub invariant-loop-builtin : goal.invariant-loop-builtin
invariant-loop-builtin g l = ArePrograms (take l.builtin-index l.builtins) l.programs.items
