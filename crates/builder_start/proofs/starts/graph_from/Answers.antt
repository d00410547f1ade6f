use Rattle.std.proofs.Common.{subst}
use Rattle.builder_start.specs.Graphs.{AreClosureRecords}
use Rattle.builder_start.proofs.GraphStarts.{graph_is}
use Rattle.builder_start.proofs.starts.graph_from.Goals as goal

pub returns-clause-graph : goal.returns-clause-graph
returns-clause-graph c =
    graph_is c.args.rows.now c.args.whole.now c.args.roots.now c.in_ok-starts.starts.items
    c.in_ok-records.field-0.items c.in_ok-starts.ensures.starts
    (subst (λ starts. AreClosureRecords c.args.rows.now starts c.in_ok-records.field-0.items)
    c.deref.ensures.value c.in_ok-records.ensures)
