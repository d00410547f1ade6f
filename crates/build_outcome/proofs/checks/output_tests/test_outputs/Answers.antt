use Rattle.std.proofs.lemmas.Result.{err_from_is_err_and}
use Rattle.build_outcome.proofs.JobReadings.{can_read}
use Rattle.build_outcome.proofs.Testings.{fixed_told, plain_passed, tests_err, tests_ok}
use Rattle.build_outcome.proofs.checks.output_tests.test_outputs.Goals as goal

pub test_fixed-requires : goal.test_fixed-requires
test_fixed-requires c = rw c.records.ensures (record {
  rising = c.requires.rising;
  count = c.requires.count;
  refer = c.requires.permitted;
  closures = c.requires.closures;
})

pub returns-in-Plain-clause-ok : goal.returns-in-Plain-clause-ok
returns-in-Plain-clause-ok c =
    plain_passed c.args.job.now c.args.permitted.now c.args.checked.now c.args.asked.now.closures.items
    c.in-Plain.is

pub returns-in_err-test_fixed-in-Nix-clause-err : goal.returns-in_err-test_fixed-in-Nix-clause-err
returns-in_err-test_fixed-in-Nix-clause-err c =
    let p = err_from_is_err_and c.from_residual.result c.from_residual.ensures.1 in
    rw (p.1, p.2)
    (fixed_told c.args.job.now c.args.permitted.now c.args.checked.now c.args.asked.now.closures.items _
    c.in-Nix.is (can_read c.args.job.now c.args.asked.now.checks c.requires.checks)
    (rw c.records.ensures at c.in_err-test_fixed-in-Nix.ensures))

pub test_checks-requires-clause-testable : goal.test_checks-requires-clause-testable
test_checks-requires-clause-testable c = rw c.records.ensures (record {
  rising = c.requires.rising;
  count = c.requires.count;
  refer = c.requires.permitted;
  closures = c.requires.closures;
})

pub returns-in_ok-test_fixed-in-Nix-clause-ok : goal.returns-in_ok-test_fixed-in-Nix-clause-ok
returns-in_ok-test_fixed-in-Nix-clause-ok c =
    tests_ok c.args.job.now c.args.permitted.now c.args.checked.now c.args.asked.now.closures.items
    c.in-Nix.is (can_read c.args.job.now c.args.asked.now.checks c.requires.checks)
    (rw c.records.ensures at c.in_ok-test_fixed-in-Nix.ensures) _
    (rw c.records.ensures at c.test_checks.ensures)

pub returns-in_ok-test_fixed-in-Nix-clause-err : goal.returns-in_ok-test_fixed-in-Nix-clause-err
returns-in_ok-test_fixed-in-Nix-clause-err c =
    tests_err c.args.job.now c.args.permitted.now c.args.checked.now c.args.asked.now.closures.items
    c.in-Nix.is (can_read c.args.job.now c.args.asked.now.checks c.requires.checks)
    (rw c.records.ensures at c.in_ok-test_fixed-in-Nix.ensures) _
    (rw c.records.ensures at c.test_checks.ensures)
