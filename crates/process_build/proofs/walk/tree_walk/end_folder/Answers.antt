use Rattle.std.proofs.Common.{Err, ap}
use Rattle.process_build.proofs.PastLimits.{handed, past_after}
use Rattle.process_build.proofs.Under.{joins_under, one_under}
use Rattle.process_build.proofs.Walking.{at_above, emptied, whole_at}
use Rattle.process_build.proofs.walk.tree_walk.end_folder.Goals as goal

pub returns-in_default-clause-position : goal.returns-in_default-clause-position
returns-in_default-clause-position g c = λ profile start ahead at.
    whole_at _ (joins_under _ g.met.H.Hear.joins profile) _ _ _ _ _ (emptied _ _ _
    c.in_default.ensures.items c.in_default.ensures.rest c.in_default.ensures.cases.0) at
    (one_under _ g.met.H.Hear.joins profile _ _ _ c.in_ok-tell_event.ensures.told tt)

pub returns-clause-position : goal.returns-clause-position
returns-clause-position g c = λ profile start ahead at.
    at_above _ (joins_under _ g.met.H.Hear.joins profile) _ _ _ _ _ _ _ _
    c.in-Some.ensures.items at
    (one_under _ g.met.H.Hear.joins profile _ _ _ c.in_ok-tell_event.ensures.told tt)
    (one_under _ g.met.H.Hear.joins profile _ _ _ c.in_ok-tell_event-2.ensures.told tt)

pub returns-in_err-tell_event-2-clause-past : goal.returns-in_err-tell_event-2-clause-past
returns-in_err-tell_event-2-clause-past g c = λ large.
    past_after _ g.met.H.Hear.joins _ _ _ _ _ c.in_ok-tell_event.ensures.told
    (c.in_err-tell_event-2.ensures.past
    (ap Err (handed _ _ c.from_residual-in_err-tell_event-2.ensures.1 large)))
