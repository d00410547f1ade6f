use Rattle.std.proofs.Common.{◌<◌, arith, length}
use Rattle.build_outcome.proofs.Verdicts.{first_bad_mode, good_more, have_good_modes}
use Rattle.build_outcome.proofs.verdict.check_modes.Goals as goal

pub returns-then-has_bad_mode-clause-err : goal.returns-then-has_bad_mode-clause-err
returns-then-has_bad_mode-clause-err c permitted answer is there =
    let below : c.loop-n.n < length c.args.job.now.outputs.items =
    omega (arith, c.loop-n-test.true, c.len-n-end.ensures) in
    first_bad_mode c.args.job.now permitted answer c.loop-n.n below
    there (c.loop-n.invariant permitted answer is)
    ((c.has_bad_mode.ensures permitted answer is below).0 c.if-has_bad_mode.true)

pub loop-n-preserved : goal.loop-n-preserved
loop-n-preserved c permitted answer is =
    good_more c.args.job.now answer c.loop-n.n (c.loop-n.invariant permitted answer is)
    (λ bad.
    let is_bad =
    (c.has_bad_mode.ensures permitted answer is
    (omega (arith, c.loop-n-test.true, c.len-n-end.ensures))).1 bad in absurd cc)

pub returns-clause-good : goal.returns-clause-good
returns-clause-good c permitted answer is =
    have_good_modes c.args.job.now answer c.loop-n.n
    (omega (arith, c.loop-n-test.false, c.len-n-end.ensures, c.loop-n.auto.n-end))
    (c.loop-n.invariant permitted answer is)
