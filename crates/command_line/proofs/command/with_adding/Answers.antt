use Rattle.std.proofs.Common.{refl}
use Rattle.command_line.proofs.CommandLines.{ended_by_subcommand, grown_by_subcommand}
use Rattle.command_line.proofs.command.with_adding.Goals as goal

pub returns : goal.returns
returns c =
    let texts = grown_by_subcommand _ _ _ _ _ refl refl c.in_ok-add_text_command.ensures
    c.in_ok-subcommand.ensures in
    ended_by_subcommand _ _ _ _ _ _ refl texts c.in_ok-add_drv_command.ensures
    c.subcommand-2.ensures
