use Rattle.run_report.specs.Reports.{told_at}
use Rattle.run_report.proofs.Writing.{AreWritten}
use Rattle.run_report.proofs.report.write_lines.Given as goal

abbrev pub invariant-listed : goal.invariant-listed
invariant-listed g l = AreWritten l.listed l.one-index
    (λ one. told_at l.tense (g.S.States.graph l.states).nodes (g.S.States.names l.states)
    (g.S.States.states l.states) one.number) l.initial.out.items l.out.items
