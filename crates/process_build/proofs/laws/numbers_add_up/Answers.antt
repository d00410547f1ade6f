use Rattle.process_build.proofs.Counting.{numbers_add_up}
use Rattle.process_build.proofs.laws.numbers_add_up.Goals as goal

pub returns : goal.returns
returns c = numbers_add_up
