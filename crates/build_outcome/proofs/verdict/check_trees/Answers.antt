use Rattle.std.proofs.Common.{arith}
use Rattle.std.proofs.lemmas.Result.{err_from_is_err_and}
use Rattle.build_outcome.proofs.Judgings.{fault_verdict, missing_never, taken_more}
use Rattle.build_outcome.proofs.Verdicts.{is_taken}
use Rattle.build_outcome.proofs.verdict.check_trees.Goals as goal

pub returns-in_err-at-clause-err : goal.returns-in_err-at-clause-err
returns-in_err-at-clause-err c =
    let p = err_from_is_err_and c.from_residual.result c.from_residual.ensures.1 in
    rw (p.1, p.2) (λ permitted answer is there good.
    missing_never c.args.job.now permitted answer c.args.outputs.now is c.loop-n.n _
    (omega (arith, c.loop-n-test.true, c.len-n-end.ensures)) there
    c.in_err-at.ensures.missing)

pub returns-in_err-check_known-clause-err : goal.returns-in_err-check_known-clause-err
returns-in_err-check_known-clause-err c =
    let p = err_from_is_err_and c.from_residual-in_err-check_known.result
    c.from_residual-in_err-check_known.ensures.1 in
    rw (p.1, p.2) (λ permitted answer is there good.
    fault_verdict c.args.job.now permitted answer c.args.outputs.now is c.loop-n.n _ _
    (omega (arith, c.loop-n-test.true, c.len-n-end.ensures)) c.in_ok-at.ensures.there
    c.in_err-check_known.ensures.err there good (c.loop-n.invariant permitted answer is))

pub loop-n-preserved : goal.loop-n-preserved
loop-n-preserved c permitted answer is =
    taken_more c.args.job.now permitted answer c.args.outputs.now is c.loop-n.n _
    (omega (arith, c.loop-n-test.true, c.len-n-end.ensures)) c.in_ok-at.ensures.there
    c.in_ok-check_known.ensures.taken (c.loop-n.invariant permitted answer is)

pub returns-clause-taken : goal.returns-clause-taken
returns-clause-taken c permitted answer is there good =
    is_taken c.args.job.now answer c.loop-n.n
    (omega (arith, c.loop-n-test.false, c.len-n-end.ensures, c.loop-n.auto.n-end)) there good
    (c.loop-n.invariant permitted answer is)
