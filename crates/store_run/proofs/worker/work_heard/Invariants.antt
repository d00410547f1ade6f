use Rattle.std.proofs.Common.{IfSome}
use Rattle.store_run.specs.private.JobVerdicts.{IsToldOfSeeds}
use Rattle.store_run.proofs.worker.work_heard.Given as goal

abbrev pub invariant-loop : goal.invariant-loop
invariant-loop g l =
    (goal.iterator-loop g).can_next l.iterator' × (goal.iterator-loop g).is_finite l.iterator'
    × IfSome l.taken (λ taken. IsToldOfSeeds g.O.Outlet.names taken.0)
