use Rattle.build_outcome.proofs.OneVerdict.{has_one_verdict}
use Rattle.sched_core.proofs.laws.verdict_is_one.Goals as goal

pub returns : goal.returns
returns c = has_one_verdict
