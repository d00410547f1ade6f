use Rattle.std.proofs.Common.{◌∙◌, ap, refl}
use Rattle.std.proofs.lemmas.Result.{IfOk-weaker}
use Rattle.clap.specs.Words.{with_subcommand}
use Rattle.command_line.proofs.CommandLines.{grown_by_subcommand}
use Rattle.command_line.specs.CommandLine.{add_drv_line, add_text_line, plan_line, realise_line}
use Rattle.command_line.specs.CommandLine.{with_archives}
use Rattle.command_line.proofs.command.command.Goals as goal

pub returns : goal.returns
returns c =
    let check = grown_by_subcommand _ _ _ _ _ refl c.top.ensures c.in_ok-check_command.ensures
    c.in_ok-command.ensures in
    let more = c.in_ok-command-2.ensures
    ∙ ap (λ a. with_subcommand (with_subcommand a add_text_line.top) add_drv_line.top) check in
    let all = c.in_ok-command-3.ensures
    ∙ ap (λ a. with_subcommand (with_subcommand a plan_line.top) realise_line.top) more in
    IfOk-weaker c.with_archives.result _ _ (λ command is. is ∙ ap with_archives all)
    c.with_archives.ensures
