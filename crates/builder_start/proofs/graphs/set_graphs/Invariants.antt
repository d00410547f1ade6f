-- The graphs of the first requests were set.
use Rattle.structured_attrs.specs.Attributes.{attributes}
use Rattle.builder_start.proofs.GraphsSet.{AreSetSoFar}
use Rattle.builder_start.proofs.graphs.set_graphs.Given as goal

abbrev pub invariant-requests : goal.invariant-requests
invariant-requests l = AreSetSoFar l.rows l.whole l.requests l.request-index
    (attributes l.initial.given) (attributes l.given)
