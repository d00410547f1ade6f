use Rattle.store_run.proofs.OneThreads.{has_one_thread}
use Rattle.store_run.proofs.laws.one_thread_is_there.Goals as goal

pub returns : goal.returns
returns g c = has_one_thread g.B.Build.may
