use Rattle.run_report.specs.Reports.{outputs_at}
use Rattle.run_report.proofs.Writing.{AreWritten}
use Rattle.run_report.proofs.report.write_roots.Given as goal

abbrev pub invariant-roots : goal.invariant-roots
invariant-roots g l = AreWritten (g.S.States.graph l.states).roots l.root-index
    (outputs_at (g.S.States.graph l.states).nodes (g.S.States.states l.states))
    l.initial.out.items l.out.items
