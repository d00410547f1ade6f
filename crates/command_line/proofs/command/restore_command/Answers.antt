use Rattle.std.proofs.Common.{codes}
use Rattle.clap.specs.Words.{new_app}
use Rattle.command_line.proofs.CommandLines.{ended_by_arg}
use Rattle.command_line.specs.CommandLine.{required_word}
use Rattle.command_line.proofs.command.restore_command.Goals as goal

pub returns : goal.returns
returns c =
    ended_by_arg _ c.subcommand.result c.word.result c.arg.result (new_app (codes "restore"))
    (required_word (codes "PATH")) c.word.ensures.local c.subcommand.ensures c.word.ensures.rule
    c.arg.ensures
