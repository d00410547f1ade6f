use Rattle.process_build.proofs.Counting.{all_never_falls}
use Rattle.process_build.proofs.laws.all_never_falls.Goals as goal

pub returns : goal.returns
returns c = all_never_falls
