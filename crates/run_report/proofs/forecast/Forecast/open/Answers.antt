use Rattle.run_report.proofs.Held.{are_held}
use Rattle.run_report.proofs.forecast.Forecast.open.Goals as goal

pub invariant_of-result : goal.invariant_of-result
invariant_of-result c =
    are_held c.args.plan c.args.system c.args.journal.entries _ _ _
    c.in_ok-preconditions.ensures.ok
    (rw c.deref.ensures.value at c.in_ok-wanted.ensures.ok)
    (λ run first is stand want. c.in_ok-states.ensures.ok run first is
    (rw c.deref-2.ensures.value stand) (rw c.deref-3.ensures.value want))
