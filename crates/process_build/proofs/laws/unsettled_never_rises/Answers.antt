use Rattle.process_build.proofs.Counting.{unsettled_never_rises}
use Rattle.process_build.proofs.laws.unsettled_never_rises.Goals as goal

pub returns : goal.returns
returns c = unsettled_never_rises
