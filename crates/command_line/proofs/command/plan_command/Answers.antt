use Rattle.std.proofs.Common.{codes}
use Rattle.clap.specs.Words.{App, with_rule}
use Rattle.command_line.proofs.CommandLines.{ended_by_arg, grown_by_arg}
use Rattle.command_line.specs.CommandLine.{dot_flag, drv_words, run_options}
use Rattle.command_line.proofs.command.plan_command.Goals as goal

pub returns : goal.returns
returns c =
    let line : App = run_options (codes "plan") in
    let dot = grown_by_arg c.in_ok-run_command.field-0 c.dot.result c.in_ok-arg.field-0 line
    dot_flag c.dot.ensures.local c.in_ok-run_command.ensures c.dot.ensures.rule
    c.in_ok-arg.ensures in
    ended_by_arg _ c.in_ok-arg.field-0 c.wanted_drvs.result c.arg-2.result
    (with_rule line dot_flag) drv_words c.wanted_drvs.ensures.local dot
    c.wanted_drvs.ensures.rule c.arg-2.ensures
