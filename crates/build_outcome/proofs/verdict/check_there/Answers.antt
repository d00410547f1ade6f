use Rattle.std.proofs.Common.{arith}
use Rattle.std.proofs.lemmas.Result.{err_from_is_err_and}
use Rattle.build_outcome.proofs.Judgings.{are_there, missing_verdict, there_more}
use Rattle.build_outcome.proofs.verdict.check_there.Goals as goal

pub returns-in_err-at-clause-err : goal.returns-in_err-at-clause-err
returns-in_err-at-clause-err c =
    let p = err_from_is_err_and c.from_residual.result c.from_residual.ensures.1 in
    rw (p.1, p.2) (λ permitted answer is.
    missing_verdict c.args.job.now permitted answer c.args.outputs.now is c.loop-n.n _
    (omega (arith, c.loop-n-test.true, c.len-n-end.ensures)) c.in_err-at.ensures.missing
    (c.loop-n.invariant permitted answer is))

pub loop-n-preserved : goal.loop-n-preserved
loop-n-preserved c permitted answer is =
    there_more c.args.job.now permitted answer c.args.outputs.now is c.loop-n.n _
    (omega (arith, c.loop-n-test.true, c.len-n-end.ensures)) c.in_ok-at.ensures.there
    (c.loop-n.invariant permitted answer is)

pub returns-clause-there : goal.returns-clause-there
returns-clause-there c permitted answer is =
    are_there c.args.job.now permitted answer c.args.outputs.now is c.loop-n.n
    (omega (arith, c.loop-n-test.false, c.len-n-end.ensures, c.loop-n.auto.n-end))
    (c.loop-n.invariant permitted answer is)
