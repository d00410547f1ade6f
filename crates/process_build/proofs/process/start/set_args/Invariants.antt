use Rattle.std.proofs.Common.{◌≡◌, ◌++◌, map, take}
use Rattle.std.specs.Process.{command_args, command_program, SameDir, SameEnv}
use Rattle.process_build.specs.Setups.{text_bytes}
use Rattle.process_build.proofs.process.start.set_args.Given as goal

-- the arguments so far are given
abbrev pub invariant-loop-arg : goal.invariant-loop-arg
invariant-loop-arg l = record {
  args : command_args l.command
      ≡ command_args l.fn.command ++ map text_bytes (take l.arg-index l.args);
  program : command_program l.command ≡ command_program l.fn.command;
  env : SameEnv l.fn.command l.command;
  dir : SameDir l.fn.command l.command;
}
