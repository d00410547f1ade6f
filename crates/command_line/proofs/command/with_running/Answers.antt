use Rattle.std.proofs.Common.{refl}
use Rattle.command_line.proofs.CommandLines.{ended_by_subcommand, grown_by_subcommand}
use Rattle.command_line.proofs.command.with_running.Goals as goal

pub returns : goal.returns
returns c =
    let plans = grown_by_subcommand _ _ _ _ _ refl refl c.in_ok-plan_command.ensures
    c.in_ok-subcommand.ensures in
    ended_by_subcommand _ _ _ _ _ _ refl plans c.in_ok-realise_command.ensures
    c.subcommand-2.ensures
