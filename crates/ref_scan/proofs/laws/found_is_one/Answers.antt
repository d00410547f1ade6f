use Rattle.ref_scan.specs.Trees.{pieces}
use Rattle.ref_scan.proofs.Uniqueness.{found_once}
use Rattle.ref_scan.proofs.laws.found_is_one.Goals as goal

pub returns : goal.returns
returns c = λ tree. found_once (pieces tree)
