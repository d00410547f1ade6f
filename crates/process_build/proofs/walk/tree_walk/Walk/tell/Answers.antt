use Rattle.std.proofs.Common.{Err, ap, subst}
use Rattle.process_build.specs.Walks.{IsPastLimits}
use Rattle.process_build.proofs.PastLimits.{handed, told_past}
use Rattle.process_build.proofs.Under.{joins_under}
use Rattle.process_build.proofs.Walking.{at_or_done}
use Rattle.process_build.proofs.walk.tree_walk.Walk.tell.Goals as goal

pub steps-init : goal.steps-init
steps-init g c = record {
  same = c.in_ok-position.ensures.step.same;
  limit = c.in_ok-position.ensures.step.limit;
  position =
      at_or_done _ (joins_under _ g.met.H.Hear.joins _) _ _ _ _ c.new-around.ensures.items
      c.in_ok-position.ensures.found;
}

pub returns-in_err-position-2-clause-past : goal.returns-in_err-position-2-clause-past
returns-in_err-position-2-clause-past g c = λ large.
    let past = c.in_err-position-2.ensures.step.past
    (ap Err (handed _ _ c.from_residual-in_err-position-2.ensures.1 large)) in
    let by = subst (λ limit. IsPastLimits c.steps.self.profile g.H.Hear.heard
    (g.L.Limit.keeps limit) c.steps.hearer c.step.new.hearer) c.steps.invariant.limit past in
    told_past _ g.met.H.Hear.joins _ _ _ _ _ c.steps.position c.steps.around.items
    c.steps.invariant.position
    (subst (λ profile. IsPastLimits profile g.H.Hear.heard
    (g.L.Limit.keeps c.args.self.now.limit.now) c.steps.hearer c.step.new.hearer)
    c.steps.invariant.same by)
