use Rattle.std.proofs.Common.{◌<◌, ◌^◌, arith, inr, length}
use Rattle.std.proofs.lemmas.Result.{err_from_is_err_and}
use Rattle.build_outcome.proofs.HeardAnswers.{examined_of, read_as}
use Rattle.build_outcome.proofs.verdict.examine_heard.Goals as goal

pub returns-in_err-check_status : goal.returns-in_err-check_status
returns-in_err-check_status c =
    let p = err_from_is_err_and c.from_residual.result c.from_residual.ensures.1 in
    let few : length c.args.outputs.items < 2 ^ 63 =
    omega (arith, c.args.outputs.small, c.args.outputs.ok.0, c.args.outputs.ok.1) in
    rw (p.1, p.2) (λ lefts heard.
    examined_of c.args.job.now c.args.permitted.now c.args.status lefts c.args.outputs.items _
    few heard
    (λ answer is. inr (c.in_err-check_status.ensures.err c.args.job.now c.args.permitted.now
    answer is.ended)))

pub returns : goal.returns
returns c lefts heard =
    let few : length c.args.outputs.items < 2 ^ 63 =
    omega (arith, c.args.outputs.small, c.args.outputs.ok.0, c.args.outputs.ok.1) in
    examined_of c.args.job.now c.args.permitted.now c.args.status lefts c.args.outputs.items _
    few heard
    (λ answer is. c.judge.ensures answer
    (read_as c.args.job.now c.args.permitted.now c.args.status lefts _ answer
    (rw c.deref.ensures.value heard) is c.in_ok-check_status.ensures.ok))
