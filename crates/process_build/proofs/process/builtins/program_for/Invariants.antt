use Rattle.std.proofs.Common.{◌≡◌, map, take}
use Rattle.process_build.specs.Setups.{entry_of_builtin, or_text, value_of}
use Rattle.process_build.proofs.process.builtins.program_for.Given as goal

-- the program by the builtins so far
abbrev pub invariant-loop-builtin : goal.invariant-loop-builtin
invariant-loop-builtin l = l.program
    ≡ or_text l.builder (value_of l.builder (map entry_of_builtin (take l.builtin-index l.builtins)))
