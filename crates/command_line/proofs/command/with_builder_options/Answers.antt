use Rattle.std.proofs.Common.{refl}
use Rattle.clap.specs.Words.{App, app_of, with_rule}
use Rattle.command_line.proofs.CommandLines.{ended_by_arg, grown_by_arg}
use Rattle.command_line.specs.CommandLine.{build_dir_option, cores_option, keep_failed_flag}
use Rattle.command_line.specs.CommandLine.{logs_option, runner_option, trace_option}
use Rattle.command_line.proofs.command.with_builder_options.Goals as goal

pub returns : goal.returns
returns c =
    let line_0 : App = app_of c.args.command in
    let line_1 = with_rule line_0 logs_option in
    let line_2 = with_rule line_1 keep_failed_flag in
    let line_3 = with_rule line_2 runner_option in
    let line_4 = with_rule line_3 trace_option in
    let line_5 = with_rule line_4 build_dir_option in
    let logs = grown_by_arg c.args.command c.logs.result c.in_ok-arg.field-0 line_0
    logs_option c.logs.ensures.local refl c.logs.ensures.rule c.in_ok-arg.ensures in
    let kept = grown_by_arg c.in_ok-arg.field-0 c.keep_failed.result c.in_ok-arg-2.field-0 line_1
    keep_failed_flag c.keep_failed.ensures.local logs c.keep_failed.ensures.rule
    c.in_ok-arg-2.ensures in
    let runner = grown_by_arg c.in_ok-arg-2.field-0 c.runner.result c.in_ok-arg-3.field-0 line_2
    runner_option c.runner.ensures.local kept c.runner.ensures.rule c.in_ok-arg-3.ensures in
    let trace = grown_by_arg c.in_ok-arg-3.field-0 c.trace.result c.in_ok-arg-4.field-0 line_3
    trace_option c.trace.ensures.local runner c.trace.ensures.rule c.in_ok-arg-4.ensures in
    let build_dir = grown_by_arg c.in_ok-arg-4.field-0 c.build_dir.result c.in_ok-arg-5.field-0
    line_4 build_dir_option c.build_dir.ensures.local trace c.build_dir.ensures.rule
    c.in_ok-arg-5.ensures in
    ended_by_arg _ c.in_ok-arg-5.field-0 c.cores.result c.arg-6.result line_5 cores_option
    c.cores.ensures.local build_dir c.cores.ensures.rule c.arg-6.ensures
