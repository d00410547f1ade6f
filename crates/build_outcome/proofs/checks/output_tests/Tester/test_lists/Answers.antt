use Rattle.std.proofs.lemmas.Result.{err_from_is_err_and}
use Rattle.build_outcome.proofs.Testings.{all_told, first_failed, second_failed, third_failed}
use Rattle.build_outcome.proofs.checks.output_tests.Tester.test_lists.Goals as goal

pub returns-in_err-test_check : goal.returns-in_err-test_check
returns-in_err-test_check c =
    let self = c.args.self.now in
    let p = err_from_is_err_and c.from_residual.result c.from_residual.ensures.1 in
    rw (p.1, p.2)
    (first_failed self.job.now self.permitted.now self.records.now self.asked.now.closures.items _ _
    c.in_err-test_check.ensures)

pub returns-in_err-test_check-2 : goal.returns-in_err-test_check-2
returns-in_err-test_check-2 c =
    let self = c.args.self.now in
    let p = err_from_is_err_and c.from_residual-in_err-test_check-2.result
    c.from_residual-in_err-test_check-2.ensures.1 in
    rw (p.1, p.2)
    (second_failed self.job.now self.permitted.now self.records.now self.asked.now.closures.items _ _
    c.in_ok-test_check.ensures c.in_err-test_check-2.ensures)

pub returns-in_err-test_check-3 : goal.returns-in_err-test_check-3
returns-in_err-test_check-3 c =
    let self = c.args.self.now in
    let p = err_from_is_err_and c.from_residual-in_err-test_check-3.result
    c.from_residual-in_err-test_check-3.ensures.1 in
    rw (p.1, p.2)
    (third_failed self.job.now self.permitted.now self.records.now self.asked.now.closures.items _ _
    c.in_ok-test_check.ensures c.in_ok-test_check-2.ensures c.in_err-test_check-3.ensures)

pub returns : goal.returns
returns c =
    let self = c.args.self.now in
    all_told self.job.now self.permitted.now self.records.now self.asked.now.closures.items _ _
    c.in_ok-test_check.ensures c.in_ok-test_check-2.ensures c.in_ok-test_check-3.ensures
    c.test_check-4.ensures
