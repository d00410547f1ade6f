use Rattle.std.proofs.Common.{◌≡◌, ℕ, List, Some, true, map, option_map, take}
use Rattle.std.specs.Process.{clears_env, command_var, SameDir, SameProgramAndArgs}
use Rattle.process_build.specs.Setups.{entry_of_var, value_of}
use Rattle.process_build.proofs.process.environment.set_environment.Given as goal

-- the variables so far are set
abbrev pub invariant-loop-setting : goal.invariant-loop-setting
invariant-loop-setting l = record {
  clears : clears_env l.command ≡ true;
  call : SameProgramAndArgs l.fn.command l.command;
  dir : SameDir l.fn.command l.command;
  vars : (k : List ℕ) → command_var l.command k
      ≡ option_map Some (value_of k (map entry_of_var (take l.setting-index l.settings)));
}
