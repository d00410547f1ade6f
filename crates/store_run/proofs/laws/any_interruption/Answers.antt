use Rattle.store_run.proofs.Interruptions.{any_interruption}
use Rattle.store_run.proofs.laws.any_interruption.Goals as goal

pub returns : goal.returns
returns g c = any_interruption g.B.Build.may
