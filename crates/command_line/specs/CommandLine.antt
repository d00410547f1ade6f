-- The command line, in `clap`'s words for one: its subcommands, and the words and options of each
-- (the documentation of clap 4, `Command` and `Arg`).
use Rattle.std.specs.Prelude.{[], ◌∷◌, Some, pos, true, codes}
use Rattle.clap.specs.Words.{App, Rule, new_app, new_rule, with_rule, with_subcommand}
use Rattle.clap.specs.declared.builder.action.ArgAction.TheVariants.{Append, SetTrue}
use Rattle.clap.specs.declared.builder.value_parser.ValueParser.TheVariants.{Signed, Unsigned}
use Rattle.nix_names.specs.Bytes.{Bytes, Name}

-- an option with one value
abbrev pub option : (name : Name) → Rule
option name = record (new_rule name) { long = Some name; value_names = 1 }

-- an option with one value, and the value that it has where it isn't given
abbrev pub option_or : (name : Name) → (default : Bytes) → Rule
option_or name default = record (option name) { defaults = default ∷ [] }

-- a required word
abbrev pub required_word : Name → Rule
required_word name = record (new_rule name) { required = true }

-- the option with the store folder
abbrev pub store_dir_option : Rule
store_dir_option = option_or (codes "store-dir") (codes "/nix/store")

-- the option with the journal file
abbrev pub journal_option : Rule
journal_option = option (codes "journal")

-- the option with the system
abbrev pub system_option : Rule
system_option = option_or (codes "system") (codes "x86_64-linux")

-- the option with the features of the system, as one text
abbrev pub features_option : Rule
features_option = option (codes "system-features")

-- the option with a builtin builder and its program, as often as it is given
abbrev pub builtin_option : Rule
builtin_option = record (option (codes "builtin")) { action = Some Append }

-- the option with the number of builders, a whole number from 1 to 64
abbrev pub jobs_option : Rule
jobs_option =
    record (option_or (codes "jobs") (codes "1")) { parser = Some (Signed (pos 1) (pos 64)) }

-- an option without a value
abbrev pub flag : (name : Name) → Rule
flag name = record (new_rule name) { long = Some name; action = Some SetTrue }

-- the flag that asks for a graph
abbrev pub dot_flag : Rule
dot_flag = flag (codes "dot")

-- the flag that asks to wait for another run
abbrev pub wait_flag : Rule
wait_flag = flag (codes "wait")

-- the flag that asks to go on in a store that Nix manages
abbrev pub in_nix_store_flag : Rule
in_nix_store_flag = flag (codes "in-nix-store")

-- the option with the folder of logs
abbrev pub logs_option : Rule
logs_option = option (codes "logs")

-- the flag that asks to keep the build folders of builders that failed
abbrev pub keep_failed_flag : Rule
keep_failed_flag = flag (codes "keep-failed")

-- the option with the program that starts builders
abbrev pub runner_option : Rule
runner_option = option (codes "runner")

-- the option with the file of trace events
abbrev pub trace_option : Rule
trace_option = option (codes "trace")

-- the option with the folder that gets the build folders
abbrev pub build_dir_option : Rule
build_dir_option = option (codes "build-dir")

-- the option with the number of processors that a builder is told of, a whole number to 65,535
abbrev pub cores_option : Rule
cores_option = record (option (codes "cores")) { parser = Some (Unsigned 0 65535) }

-- the option with the profile
abbrev pub profile_option : Rule
profile_option = option_or (codes "profile") (codes "plain")

-- one or more words DRV
abbrev pub drv_words : Rule
drv_words = record (required_word (codes "DRV")) { action = Some Append }

-- words PATH, as many as wanted
abbrev pub path_words : Rule
path_words = record (new_rule (codes "PATH")) { action = Some Append }

-- the subcommand `check`
abbrev pub check_line : App
check_line = with_rule (with_rule (new_app (codes "check")) store_dir_option) drv_words

-- the subcommand `add-text`
abbrev pub add_text_line : App
add_text_line =
    with_rule
    (with_rule
    (with_rule
    (with_rule
    (with_rule (with_rule (new_app (codes "add-text")) store_dir_option) journal_option)
    profile_option) wait_flag) (required_word (codes "NAME"))) (required_word (codes "FILE"))

-- the subcommand `add-drv`
abbrev pub add_drv_line : App
add_drv_line =
    with_rule
    (with_rule
    (with_rule (with_rule (new_app (codes "add-drv")) store_dir_option) profile_option)
    (required_word (codes "NAME"))) (required_word (codes "FILE"))

-- a subcommand that takes a plan and a journal, by its name, with the options that both have
abbrev pub run_options : (name : Name) → App
run_options name =
    with_rule
    (with_rule
    (with_rule
    (with_rule
    (with_rule (with_rule (new_app name) store_dir_option) journal_option)
    system_option) profile_option) features_option) builtin_option

-- the subcommand `plan`
abbrev pub plan_line : App
plan_line = with_rule (with_rule (run_options (codes "plan")) dot_flag) drv_words

-- a subcommand with the options on how builders are started, and on what is kept of their runs
abbrev pub with_builder_options : App → App
with_builder_options line =
    with_rule
    (with_rule
    (with_rule
    (with_rule (with_rule (with_rule line logs_option) keep_failed_flag) runner_option)
    trace_option) build_dir_option) cores_option

-- the subcommand `realise`
abbrev pub realise_line : App
realise_line =
    with_rule
    (with_builder_options
    (with_rule
    (with_rule (with_rule (run_options (codes "realise")) jobs_option) wait_flag)
    in_nix_store_flag)) drv_words

-- a subcommand with one word, the path of a file, a folder or a link
abbrev pub path_line : (name : Name) → App
path_line name = with_rule (new_app name) (required_word (codes "PATH"))

-- the subcommand `verify`
abbrev pub verify_line : App
verify_line =
    with_rule
    (with_rule (with_rule (new_app (codes "verify")) store_dir_option) journal_option)
    path_words

-- a command with the subcommands that read and make archives, and the one that verifies by them
abbrev pub with_archives : App → App
with_archives line =
    with_subcommand
    (with_subcommand
    (with_subcommand
    (with_subcommand line (path_line (codes "dump")).top) (path_line (codes "restore")).top)
    (path_line (codes "hash")).top) verify_line.top

-- the program, which has a version and wants a subcommand
abbrev pub top_line : App
top_line =
    let top = (new_app (codes "nix_realise")).top in
    record {
      top = record top { has_version = true; subcommand_required = true };
      subs = [];
    }

-- the whole command line
abbrev pub command_line : App
command_line =
    with_archives
    (with_subcommand
    (with_subcommand
    (with_subcommand
    (with_subcommand (with_subcommand top_line check_line.top) add_text_line.top)
    add_drv_line.top) plan_line.top) realise_line.top)
