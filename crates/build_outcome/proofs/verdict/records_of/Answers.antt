use Rattle.std.proofs.Common.{◌∙◌, ◌+◌, [], ◌∷◌, ap, arith, length, length-append}
use Rattle.std.proofs.lemmas.Result.{err_from_is_err_and}
use Rattle.build_outcome.proofs.Judgings.{missing_never, record_more}
use Rattle.build_outcome.proofs.Verdicts.{are_records}
use Rattle.build_outcome.proofs.verdict.records_of.Goals as goal

pub loop-n-preserved : goal.loop-n-preserved
loop-n-preserved c =
    record {
      count = ap length c.push_reserved.ensures.items
          ∙ length-append c.loop-n.records.items (_ ∷ [])
          ∙ ap (λ n. n + 1) c.loop-n.invariant.count;
      records = λ answer is taken.
          record_more c.args.job.now c.args.permitted.now answer c.args.outputs.now is
          c.loop-n.records.items c.push_reserved.new.self.items c.loop-n.n _ _
          (omega (arith, c.loop-n-test.true, c.len-n-end.ensures)) taken
          c.in_ok-at.ensures.there c.in_ok-record.ensures
          (c.loop-n.invariant.records answer is taken) c.push_reserved.ensures.items;
      room = c.push_reserved.ensures.capacity ∙ c.loop-n.invariant.room;
    }

pub returns-in_err-at-clause-err : goal.returns-in_err-at-clause-err
returns-in_err-at-clause-err c =
    let p = err_from_is_err_and c.from_residual-in_err-at.result
    c.from_residual-in_err-at.ensures.1 in
    rw (p.1, p.2) (λ answer is taken.
    missing_never c.args.job.now c.args.permitted.now answer c.args.outputs.now is c.loop-n.n _
    (omega (arith, c.loop-n-test.true, c.len-n-end.ensures)) taken.0
    c.in_err-at.ensures.missing)

pub returns-clause-records : goal.returns-clause-records
returns-clause-records c answer is taken =
    are_records c.args.job.now c.args.permitted.now answer c.loop-n.records.items
    c.loop-n.n
    (omega (arith, c.loop-n-test.false, c.len-n-end.ensures, c.loop-n.auto.n-end))
    (c.loop-n.invariant.records answer is taken)
