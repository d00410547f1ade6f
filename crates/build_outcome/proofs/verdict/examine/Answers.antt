use Rattle.std.proofs.Common.{inr, refl}
use Rattle.std.proofs.lemmas.Result.{err_from_is_err_and}
use Rattle.build_outcome.proofs.Archives.{sums_read}
use Rattle.build_outcome.proofs.verdict.examine.Goals as goal

pub returns-in_err-check_status : goal.returns-in_err-check_status
returns-in_err-check_status c =
    let p = err_from_is_err_and c.from_residual.result c.from_residual.ensures.1 in
    rw (p.1, p.2)
    (inr (c.in_err-check_status.ensures.err c.args.job.now c.args.permitted.now c.args.answer refl))

pub returns-in_err-sums : goal.returns-in_err-sums
returns-in_err-sums c =
    let p = err_from_is_err_and c.from_residual-in_err-sums.result
    c.from_residual-in_err-sums.ensures.1 in
    rw (p.1, p.2) (c.in_err-sums.ensures.err c.args.permitted.now)

pub returns : goal.returns
returns c = c.judge.ensures c.args.answer record {
  known = (refl, rw c.deref.ensures.value c.in_ok-sums.ensures.sums);
  ended = c.in_ok-check_status.ensures.ok;
  read = sums_read _ _ _ c.in_ok-sums.ensures.sums;
}
