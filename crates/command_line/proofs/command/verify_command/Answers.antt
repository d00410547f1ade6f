use Rattle.std.proofs.Common.{codes}
use Rattle.clap.specs.Words.{App, new_app, with_rule}
use Rattle.command_line.proofs.CommandLines.{ended_by_arg, grown_by_arg}
use Rattle.command_line.specs.CommandLine.{journal_option, path_words, store_dir_option}
use Rattle.command_line.proofs.command.verify_command.Goals as goal

pub returns : goal.returns
returns c =
    let line_0 : App = new_app (codes "verify") in
    let line_1 = with_rule line_0 store_dir_option in
    let line_2 = with_rule line_1 journal_option in
    let store_dir = grown_by_arg c.subcommand.result c.store_dir.result c.in_ok-arg.field-0 line_0
    store_dir_option c.store_dir.ensures.local c.subcommand.ensures c.store_dir.ensures.rule
    c.in_ok-arg.ensures in
    let journal = grown_by_arg c.in_ok-arg.field-0 c.journal.result c.in_ok-arg-2.field-0 line_1
    journal_option c.journal.ensures.local store_dir c.journal.ensures.rule
    c.in_ok-arg-2.ensures in
    ended_by_arg _ c.in_ok-arg-2.field-0 c.paths.result c.arg-3.result line_2 path_words
    c.paths.ensures.local journal c.paths.ensures.rule c.arg-3.ensures
