use Rattle.std.proofs.Common.{◌<◌, arith, length}
use Rattle.std.proofs.lemmas.Result.{err_from_is_err_and}
use Rattle.build_outcome.proofs.Testings.{checks_failed, checks_none, checks_passed}
use Rattle.build_outcome.proofs.checks.output_tests.Tester.test_checks.Goals as goal

pub loop-n-init : goal.loop-n-init
loop-n-init c =
    let self = c.args.self.now in
    checks_none self.job.now self.permitted.now self.records.now self.asked.now.closures.items

pub loop-n-preserved : goal.loop-n-preserved
loop-n-preserved c =
    let self = c.args.self.now in
    checks_passed self.job.now self.permitted.now self.records.now self.asked.now.closures.items _
    c.loop-n.invariant c.in_ok-test_output.ensures

pub returns-in_err-test_output : goal.returns-in_err-test_output
returns-in_err-test_output c =
    let self = c.args.self.now in
    let below : c.loop-n.n < length self.job.now.outputs.items =
    omega (arith, c.loop-n-test.true, c.len-n-end.ensures) in
    let p = err_from_is_err_and c.from_residual.result c.from_residual.ensures.1 in
    rw (p.1, p.2)
    (checks_failed self.job.now self.permitted.now self.records.now self.asked.now.closures.items _ _ _
    below c.loop-n.invariant c.in_err-test_output.ensures)
