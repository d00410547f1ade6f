use Rattle.build_outcome.proofs.HeardOutputs.{flat_at, output_kept, too_large}
use Rattle.build_outcome.proofs.Knowns.{past}
use Rattle.build_outcome.proofs.hearers.output_hearer.OutputHearer.finish.Goals as goal

pub returns-then-not-is_taken-clause-err : goal.returns-then-not-is_taken-clause-err
returns-then-not-is_taken-clause-err c job permitted start tree begun heard =
    too_large job permitted start c.args.self tree begun heard
    (past _ _ c.may_be_taken-is_taken.ensures c.if-not-is_taken.true)

pub returns-clause-kept : goal.returns-clause-kept
returns-clause-kept c job permitted start tree begun heard archivable =
    output_kept job permitted start c.args.self tree begun heard _ archivable
    (c.may_be_taken-is_taken.ensures.0 c.if-not-is_taken.false)
    (c.in_ok-sum.ensures job.profile job.kind start.archive tree begun.archive heard.archive)
    c.in-Ok.ensures.found
    (flat_at job permitted start c.args.self tree begun heard _
    (c.is_flat_file-is_flat_file.ensures _ start.file tree begun.file heard.file))
    (c.finish-digest.ensures _ start.file tree begun.file heard.file)
