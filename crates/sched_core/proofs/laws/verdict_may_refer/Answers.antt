use Rattle.sched_core.proofs.ExaminedRecords.{verdicts_may_refer}
use Rattle.sched_core.proofs.laws.verdict_may_refer.Goals as goal

pub returns : goal.returns
returns c = verdicts_may_refer
