use Rattle.process_build.proofs.ToldSteps.{steps_tell}
use Rattle.process_build.proofs.laws.steps_tell_trees.Goals as goal

pub returns : goal.returns
returns c = steps_tell
