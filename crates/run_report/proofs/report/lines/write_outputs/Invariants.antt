use Rattle.std.proofs.Common.{codes}
use Rattle.run_report.specs.Reports.{path_line}
use Rattle.run_report.proofs.Writing.{AreWritten}
use Rattle.run_report.proofs.report.lines.write_outputs.Given as goal

abbrev pub invariant-paths : goal.invariant-paths
invariant-paths l = AreWritten l.paths l.path-index (path_line (codes "output "))
    l.initial.out.items l.out.items
