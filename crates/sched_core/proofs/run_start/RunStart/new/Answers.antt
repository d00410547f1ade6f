use Rattle.std.proofs.Common.{refl, arith}
use Rattle.sched_core.proofs.Keeping.{opening_kept}
use Rattle.sched_core.proofs.run_start.RunStart.new.Goals as goal

pub returns-clause-kept : goal.returns-clause-kept
returns-clause-kept c =
    opening_kept _ _ _ c.args.journal.now.entries _ c.in_ok-states.states c.args.plan
    c.in_ok-preconditions.preconditions.items c.in_ok-wanted.wanted.items
    c.in_ok-twins.twins.items
    (rw (← c.entries.ensures.value) c.entries.ensures.is_journal) refl
    c.in_ok-events.ensures.items
    c.in_ok-preconditions.ensures.ok
    (λ run first is stand. c.in_ok-wanted.ensures.ok run first is
    (rw c.deref.ensures.value stand))
    (λ run first is want. c.in_ok-twins.ensures.ok run first is
    (rw c.deref-2.ensures.value want))
    c.in_ok-states.ensures.graph c.in_ok-states.ensures.preconditions
    c.in_ok-states.ensures.wanted c.in_ok-states.ensures.twins
    c.in_ok-states.ensures.phases
    c.in_ok-states.ensures.idle
    (omega (arith, c.in_ok-events.ensures.exact, c.len.ensures))
