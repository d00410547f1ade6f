use Rattle.std.proofs.Common.{rules}
use Rattle.build_outcome.proofs.Linkages.{index_found}
use Rattle.build_outcome.proofs.links.index_of.Goals as goal

pub returns : goal.returns
returns c = search (rules, index_found)
