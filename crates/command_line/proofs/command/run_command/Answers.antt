use Rattle.clap.specs.Words.{App, new_app, with_rule}
use Rattle.command_line.proofs.CommandLines.{ended_by_arg, grown_by_arg}
use Rattle.command_line.specs.CommandLine.{builtin_option, features_option, journal_option}
use Rattle.command_line.specs.CommandLine.{profile_option, store_dir_option}
use Rattle.command_line.specs.CommandLine.{system_option}
use Rattle.command_line.proofs.command.run_command.Goals as goal

pub returns : goal.returns
returns c =
    let line_0 : App = new_app c.args.name.now in
    let line_1 = with_rule line_0 store_dir_option in
    let line_2 = with_rule line_1 journal_option in
    let line_3 = with_rule line_2 system_option in
    let line_4 = with_rule line_3 profile_option in
    let line_5 = with_rule line_4 features_option in
    let store_dir = grown_by_arg c.subcommand.result c.store_dir.result c.in_ok-arg.field-0 line_0
    store_dir_option c.store_dir.ensures.local c.subcommand.ensures c.store_dir.ensures.rule
    c.in_ok-arg.ensures in
    let journal = grown_by_arg c.in_ok-arg.field-0 c.journal.result c.in_ok-arg-2.field-0 line_1
    journal_option c.journal.ensures.local store_dir c.journal.ensures.rule
    c.in_ok-arg-2.ensures in
    let system = grown_by_arg c.in_ok-arg-2.field-0 c.system.result c.in_ok-arg-3.field-0 line_2
    system_option c.system.ensures.local journal c.system.ensures.rule c.in_ok-arg-3.ensures in
    let profile = grown_by_arg c.in_ok-arg-3.field-0 c.profile.result c.in_ok-arg-4.field-0 line_3
    profile_option c.profile.ensures.local system c.profile.ensures.rule c.in_ok-arg-4.ensures in
    let features = grown_by_arg c.in_ok-arg-4.field-0 c.features.result c.in_ok-arg-5.field-0 line_4
    features_option c.features.ensures.local profile c.features.ensures.rule
    c.in_ok-arg-5.ensures in
    ended_by_arg _ c.in_ok-arg-5.field-0 c.builtin.result c.arg-6.result line_5 builtin_option
    c.builtin.ensures.local features c.builtin.ensures.rule c.arg-6.ensures
