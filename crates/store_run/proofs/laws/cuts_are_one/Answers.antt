use Rattle.store_run.proofs.Interruptions.{cuts_are_one}
use Rattle.store_run.proofs.laws.cuts_are_one.Goals as goal

pub returns : goal.returns
returns g c = cuts_are_one g.B.Build.may
