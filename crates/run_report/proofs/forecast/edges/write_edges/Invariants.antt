use Rattle.nix_drv.specs.Parts.{input_of}
use Rattle.run_report.specs.Pictures.{edge_line}
use Rattle.run_report.proofs.Writing.{AreWritten}
use Rattle.run_report.proofs.forecast.edges.write_edges.Given as goal

abbrev pub invariant-inputs : goal.invariant-inputs
invariant-inputs l = AreWritten l.inputs l.input-index (λ i. edge_line l.user (input_of i))
    l.initial.out.items l.out.items
