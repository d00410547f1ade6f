use Rattle.std.proofs.lemmas.Result.{err_from_is_err_and}
use Rattle.build_outcome.proofs.Testings.{closure_size_failed, output_told, size_failed}
use Rattle.build_outcome.proofs.checks.output_tests.Tester.test_output.Goals as goal

pub returns-in_err-test_size : goal.returns-in_err-test_size
returns-in_err-test_size c =
    let self = c.args.self.now in
    let p = err_from_is_err_and c.from_residual.result c.from_residual.ensures.1 in
    rw (p.1, p.2)
    (size_failed self.job.now self.permitted.now self.records.now self.asked.now.closures.items _ _
    c.in_err-test_size.ensures)

pub returns-in_err-test_closure_size : goal.returns-in_err-test_closure_size
returns-in_err-test_closure_size c =
    let self = c.args.self.now in
    let p = err_from_is_err_and c.from_residual-in_err-test_closure_size.result
    c.from_residual-in_err-test_closure_size.ensures.1 in
    rw (p.1, p.2)
    (closure_size_failed self.job.now self.permitted.now self.records.now
    self.asked.now.closures.items _ _ c.in_ok-test_size.ensures
    c.in_err-test_closure_size.ensures)

pub returns : goal.returns
returns c =
    let self = c.args.self.now in
    output_told self.job.now self.permitted.now self.records.now self.asked.now.closures.items _ _
    c.in_ok-test_size.ensures c.in_ok-test_closure_size.ensures c.test_lists.ensures
