use Rattle.process_build.proofs.Counting.{order_is_no_matter}
use Rattle.process_build.proofs.laws.order_is_no_matter.Goals as goal

pub returns : goal.returns
returns c = order_is_no_matter
