use Rattle.build_outcome.proofs.Testings.{not_addressed, not_fixed}
use Rattle.build_outcome.proofs.checks.output_tests.Tester.test_fixed.Goals as goal

pub test_references-requires-clause-fixed : goal.test_references-requires-clause-fixed
test_references-requires-clause-fixed c = (_, _, c.in-Fixed.is)

pub returns-in-Addressed : goal.returns-in-Addressed
returns-in-Addressed c =
    let self = c.args.self.now in
    not_fixed self.job.now self.permitted.now self.records.now self.asked.now.closures.items _
    (not_addressed self.job.now self.permitted.now self.records.now self.asked.now.closures.items
    c.in-Addressed.is)
