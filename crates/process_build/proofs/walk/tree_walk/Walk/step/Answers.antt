use Rattle.std.proofs.Common.{Err, ap, inr, subst}
use Rattle.process_build.specs.Walks.{IsToldPast}
use Rattle.process_build.proofs.PastLimits.{found_after, handed, limits_after, past_after}
use Rattle.process_build.proofs.Under.{joins_under, one_under}
use Rattle.process_build.proofs.Walking.{at_deeper, at_more, popped}
use Rattle.process_build.proofs.walk.tree_walk.Walk.step.Goals as goal

pub returns-in_default-clause-position : goal.returns-in_default-clause-position
returns-in_default-clause-position g c = λ start at. c.in_ok-above.ensures.position _ start _ at

pub returns-in-Some-2-clause-position : goal.returns-in-Some-2-clause-position
returns-in-Some-2-clause-position g c = λ start at.
    at_deeper _ (joins_under _ g.met.H.Hear.joins _) _ _ _ _ _ _ _ _ _ _
    (popped _ _ _ _ c.in-Some.ensures.items c.deref.ensures.value) c.in_ok-push.ensures.items at
    (one_under _ g.met.H.Hear.joins _ _ _ _ c.in_ok-tell_event.ensures.told tt)
    (rw c.in-Some-2.is at c.in_ok-inside.ensures.found)

pub returns-clause-position : goal.returns-clause-position
returns-clause-position g c = λ start at.
    at_more _ (joins_under _ g.met.H.Hear.joins _) _ _ _ _ _ _ _ _ _
    (popped _ _ _ _ c.in-Some.ensures.items c.deref.ensures.value) at
    (one_under _ g.met.H.Hear.joins _ _ _ _ c.in_ok-tell_event.ensures.told tt)
    (rw c.in_default-2.is at c.in_ok-inside.ensures.found)
    (one_under _ g.met.H.Hear.joins _ _ _ _ c.in_ok-tell_event-2.ensures.told tt)

pub returns-in_err-inside-clause-step : goal.returns-in_err-inside-clause-step
returns-in_err-inside-clause-step g c = record {
  same = c.in_err-inside.ensures.step.same;
  limit = c.in_err-inside.ensures.step.limit;
  past = λ large.
      limits_after _ g.met.H.Hear.joins _ _ _ _ _ _ c.in_ok-tell_event.ensures.told
      (c.in_err-inside.ensures.step.past
      (ap Err (handed _ _ c.from_residual-in_err-inside.ensures.1 large)));
}

pub returns-in_err-tell_event-2-clause-step : goal.returns-in_err-tell_event-2-clause-step
returns-in_err-tell_event-2-clause-step g c = record {
  same = c.in_ok-inside.ensures.step.same;
  limit = c.in_ok-inside.ensures.step.limit;
  past = λ large.
      inr (past_after _ g.met.H.Hear.joins _ _ _ _ _ c.in_ok-tell_event.ensures.told
      (found_after _ g.met.H.Hear.joins _ _ _ _ _ _ c.in_ok-inside.ensures.found
      (subst (λ limit. IsToldPast g.H.Hear.heard (g.L.Limit.keeps limit) c.begin_entry.new.hearer
      c.tell_event-2.new.hearer) c.in_ok-inside.ensures.step.limit
      (c.in_err-tell_event-2.ensures.past
      (ap Err (handed _ _ c.from_residual-in_err-tell_event-2.ensures.1 large))))));
}
