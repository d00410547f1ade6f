use Rattle.std.specs.Option.{option_map}
use Rattle.run_report.specs.Words.{reason_words}
use Rattle.run_report.proofs.LineTexts.{failed_line, refused_line, two_pieces}
use Rattle.run_report.proofs.Wordings.{added_same}
use Rattle.run_report.proofs.report.write_line.Goals as goal

pub returns-in_ok-write_line_start-in-Failed : goal.returns-in_ok-write_line_start-in-Failed
returns-in_ok-write_line_start-in-Failed c =
    let named = option_map (λ path. path.now) c.args.outcome.named in
    two_pieces c.write_failure.result c.args.out.now.items c.write_line_start.new.out.items
    c.write_failure.new.out.items c.failed.result.now c.path-path.result.now
    (reason_words c.drv-drv.result.now named c.in-Failed.reason) _
    c.in_ok-write_line_start-in-Failed.ensures
    (failed_line c.args.tense c.args.plan.now.nodes named c.args.outcome.state c.args.number
    c.path-path.result.now c.drv-drv.result.now c.requires c.path-path.ensures.value
    c.drv-drv.ensures c.failed.result.now c.in-Failed.reason c.in-Failed.is c.failed.ensures)
    c.write_failure.ensures

pub returns-in-Refused : goal.returns-in-Refused
returns-in-Refused c =
    let named = option_map (λ path. path.now) c.args.outcome.named in
    added_same c.write_refused.result c.write_refused.new.out.items c.args.out.now.items _ _
    (refused_line c.args.tense c.args.plan.now.nodes named c.args.outcome.state c.args.number
    c.path-path.result.now c.drv-drv.result.now c.requires c.path-path.ensures.value
    c.drv-drv.ensures c.refused.result.now c.in-Refused.cause c.in-Refused.is c.refused.ensures)
    c.write_refused.ensures
