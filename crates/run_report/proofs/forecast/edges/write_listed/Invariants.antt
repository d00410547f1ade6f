use Rattle.std.proofs.Common.{◌++◌, codes}
use Rattle.run_report.proofs.Writing.{AreWritten}
use Rattle.run_report.proofs.forecast.edges.write_listed.Given as goal

abbrev pub invariant-others : goal.invariant-others
invariant-others l = AreWritten l.others l.name-index (λ v. codes ", " ++ v.items)
    l.initial.out.items l.out.items
