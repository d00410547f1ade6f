use Rattle.run_report.specs.Forecasts.{foretold}
use Rattle.run_report.specs.Pictures.{edges_at}
use Rattle.run_report.proofs.Writing.{AreWritten}
use Rattle.run_report.proofs.forecast.edges.write_all_edges.Given as goal

abbrev pub invariant-listed : goal.invariant-listed
invariant-listed l = AreWritten l.listed l.one-index
    (λ one. edges_at l.forecast.run.graph.nodes (foretold l.forecast.run l.forecast.entries)
    one.number) l.initial.out.items l.out.items
