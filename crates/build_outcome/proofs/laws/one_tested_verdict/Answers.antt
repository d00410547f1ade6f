use Rattle.build_outcome.proofs.TestedVerdicts.{has_one_tested_verdict}
use Rattle.build_outcome.proofs.laws.one_tested_verdict.Goals as goal

pub returns : goal.returns
returns c = has_one_tested_verdict
