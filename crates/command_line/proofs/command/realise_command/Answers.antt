use Rattle.std.proofs.Common.{◌∙◌, ap, codes}
use Rattle.clap.specs.Words.{App, with_rule}
use Rattle.command_line.proofs.CommandLines.{ended_by_arg, grown_by_arg}
use Rattle.command_line.specs.CommandLine.{drv_words, in_nix_store_flag, jobs_option, run_options}
use Rattle.command_line.specs.CommandLine.{wait_flag, with_builder_options}
use Rattle.command_line.proofs.command.realise_command.Goals as goal

pub returns : goal.returns
returns c =
    let line_0 : App = run_options (codes "realise") in
    let line_1 = with_rule line_0 jobs_option in
    let line_2 = with_rule line_1 wait_flag in
    let line_3 = with_rule line_2 in_nix_store_flag in
    let jobs = grown_by_arg c.in_ok-run_command.field-0 c.jobs.result c.in_ok-arg.field-0 line_0
    jobs_option c.jobs.ensures.local c.in_ok-run_command.ensures c.jobs.ensures.rule
    c.in_ok-arg.ensures in
    let wait = grown_by_arg c.in_ok-arg.field-0 c.wait.result c.in_ok-arg-2.field-0 line_1
    wait_flag c.wait.ensures.local jobs c.wait.ensures.rule c.in_ok-arg-2.ensures in
    let nix = grown_by_arg c.in_ok-arg-2.field-0 c.in_nix_store.result c.in_ok-command.command
    line_2 in_nix_store_flag c.in_nix_store.ensures.local wait c.in_nix_store.ensures.rule
    c.in_ok-command.ensures in
    let more = c.in_ok-with_builder_options.ensures ∙ ap with_builder_options nix in
    ended_by_arg _ c.in_ok-with_builder_options.field-0 c.wanted_drvs.result c.arg-4.result
    (with_builder_options line_3) drv_words c.wanted_drvs.ensures.local more
    c.wanted_drvs.ensures.rule c.arg-4.ensures
