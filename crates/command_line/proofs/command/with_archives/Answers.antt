use Rattle.std.proofs.Common.{refl}
use Rattle.command_line.proofs.CommandLines.{ended_by_subcommand, grown_by_subcommand}
use Rattle.command_line.proofs.command.with_archives.Goals as goal

pub returns : goal.returns
returns c =
    let dumps = grown_by_subcommand _ _ _ _ _ refl refl c.in_ok-dump_command.ensures
    c.in_ok-subcommand.ensures in
    let restores = grown_by_subcommand _ _ _ _ _ refl dumps c.in_ok-restore_command.ensures
    c.in_ok-subcommand-2.ensures in
    let hashes = grown_by_subcommand _ _ _ _ _ refl restores c.in_ok-hash_command.ensures
    c.in_ok-subcommand-3.ensures in
    ended_by_subcommand _ _ _ _ _ _ refl hashes c.in_ok-verify_command.ensures
    c.subcommand-4.ensures
