use Rattle.run_report.specs.Forecasts.{foretold}
use Rattle.run_report.specs.private.Marks.{is_marked}
use Rattle.run_report.specs.Pictures.{node_at}
use Rattle.run_report.proofs.Writing.{AreWritten}
use Rattle.run_report.proofs.forecast.picture.write_nodes.Given as goal

abbrev pub invariant-listed : goal.invariant-listed
invariant-listed l = AreWritten l.listed l.one-index
    (λ one. node_at l.forecast.run.graph.nodes (foretold l.forecast.run l.forecast.entries)
    (is_marked l.roots) one.number) l.initial.out.items l.out.items
