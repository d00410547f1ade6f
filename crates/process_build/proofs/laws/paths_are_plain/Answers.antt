use Rattle.process_build.proofs.PlainPaths.{paths_are_plain}
use Rattle.process_build.proofs.laws.paths_are_plain.Goals as goal

pub returns : goal.returns
returns c = paths_are_plain
