use Rattle.std.proofs.Common.{codes}
use Rattle.clap.specs.Words.{App, new_app, with_rule}
use Rattle.command_line.proofs.CommandLines.{ended_by_arg, grown_by_arg}
use Rattle.command_line.specs.CommandLine.{journal_option, profile_option, required_word}
use Rattle.command_line.specs.CommandLine.{store_dir_option, wait_flag}
use Rattle.command_line.proofs.command.add_text_command.Goals as goal

pub returns : goal.returns
returns c =
    let line_0 : App = new_app (codes "add-text") in
    let line_1 = with_rule line_0 store_dir_option in
    let line_2 = with_rule line_1 journal_option in
    let line_3 = with_rule line_2 profile_option in
    let line_4 = with_rule line_3 wait_flag in
    let line_5 = with_rule line_4 (required_word (codes "NAME")) in
    let store_dir = grown_by_arg c.subcommand.result c.store_dir.result c.in_ok-arg.field-0 line_0
    store_dir_option c.store_dir.ensures.local c.subcommand.ensures c.store_dir.ensures.rule
    c.in_ok-arg.ensures in
    let journal = grown_by_arg c.in_ok-arg.field-0 c.journal.result c.in_ok-arg-2.field-0 line_1
    journal_option c.journal.ensures.local store_dir c.journal.ensures.rule
    c.in_ok-arg-2.ensures in
    let profile = grown_by_arg c.in_ok-arg-2.field-0 c.profile.result c.in_ok-arg-3.field-0 line_2
    profile_option c.profile.ensures.local journal c.profile.ensures.rule
    c.in_ok-arg-3.ensures in
    let wait = grown_by_arg c.in_ok-arg-3.field-0 c.wait.result c.in_ok-arg-4.field-0 line_3
    wait_flag c.wait.ensures.local profile c.wait.ensures.rule c.in_ok-arg-4.ensures in
    let name = grown_by_arg c.in_ok-arg-4.field-0 c.word.result c.in_ok-arg-5.field-0 line_4
    (required_word (codes "NAME")) c.word.ensures.local wait c.word.ensures.rule
    c.in_ok-arg-5.ensures in
    ended_by_arg _ c.in_ok-arg-5.field-0 c.word-2.result c.arg-6.result line_5
    (required_word (codes "FILE")) c.word-2.ensures.local name c.word-2.ensures.rule
    c.arg-6.ensures
