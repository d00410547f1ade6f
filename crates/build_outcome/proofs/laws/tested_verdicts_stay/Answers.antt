use Rattle.build_outcome.proofs.TestedVerdicts.{tested_verdict_stays}
use Rattle.build_outcome.proofs.laws.tested_verdicts_stay.Goals as goal

pub returns : goal.returns
returns c = tested_verdict_stays
