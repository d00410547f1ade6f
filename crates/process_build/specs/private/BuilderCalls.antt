-- The command by which a builder is started (Nix manual, "Building").
use Rattle.std.specs.Prelude.{◌≡◌, List, ◌∷◌, ◌++◌, Option, None, Some, true, ◌==◌, codes}
use Rattle.std.specs.Prelude.{if◌then◌else◌, map, option_map}
use Rattle.std.specs.List.{list_any}
use Rattle.std.specs.Process.{clears_env, command_arg0, command_args, command_dir}
use Rattle.std.specs.Process.{command_program, command_var}
use Rattle.std.specs.declared.alloc.Global.{Global}
use Rattle.std.specs.declared.process.command.Command.{Command}
use Rattle.nix_names.specs.Bytes.{Bytes, Name}
use Rattle.process_build.specs.Setups.{entry_of_var, text_bytes, value_of}
use Rattle.process_build.specs.declared.process.setup.Setup.{Setup}

-- the program of a builder: its text, which is searched for in no folder of a `PATH`; a text
-- without a slash is a file of the folder in which the builder runs
abbrev pub program_of : (builder : Bytes) → Bytes
program_of builder =
    if list_any (λ b. b == 47) builder then builder else codes "./" ++ builder

-- the program that is started: the builder's, or the runner, where there is one
abbrev pub program_by : (runner : Option Bytes) → (builder : Bytes) → Bytes
program_by None builder = program_of builder
program_by (Some runner) builder = runner

-- the name that it is told as its own: the builder's, or the runner's path
abbrev pub name_by : (runner : Option Bytes) → (name : Name) → Bytes
name_by None name = name
name_by (Some runner) name = runner

-- its arguments: the builder's; before them a runner gets the builder's program
abbrev pub args_by : (runner : Option Bytes) → (builder : Bytes) → (args : List Bytes) → List Bytes
args_by None builder args = args
args_by (Some runner) builder args = program_of builder ∷ args

-- The command starts a builder with its setup in a folder, by a runner where there is one. The
-- setup's entries are its whole environment.
pub record Runs (runner : Option Bytes) (setup : Setup) (folder : Bytes) (command : Command Global)
    : Type 0 where
  pub is_program : command_program command ≡ program_by runner setup.builder.now
  pub is_named : command_arg0 command ≡ Some (name_by runner setup.name.now)
  pub is_called : command_args command
      ≡ args_by runner setup.builder.now (map text_bytes setup.args.items)
  pub is_cleared : clears_env command ≡ true
  pub is_set : (key : Name) →
      command_var command key ≡ option_map Some (value_of key (map entry_of_var setup.env.items))
  pub is_there : command_dir command ≡ Some folder
