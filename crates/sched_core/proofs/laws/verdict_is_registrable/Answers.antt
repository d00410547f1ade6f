use Rattle.sched_core.proofs.Registrable.{verdicts_are_registrable}
use Rattle.sched_core.proofs.laws.verdict_is_registrable.Goals as goal

pub returns : goal.returns
returns c = verdicts_are_registrable
