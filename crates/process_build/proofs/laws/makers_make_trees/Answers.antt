use Rattle.process_build.proofs.MadeTrees.{makes_trees}
use Rattle.process_build.proofs.laws.makers_make_trees.Goals as goal

pub returns : goal.returns
returns c = makes_trees
