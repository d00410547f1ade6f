use Rattle.std.proofs.Common.{rules}
use Rattle.drv_graph.proofs.Owners.{as_many}
use Rattle.drv_graph.proofs.walks.output_owners.has_as_many.Goals as goal

pub returns-in-Some : goal.returns-in-Some
returns-in-Some c = search (rules, as_many)
