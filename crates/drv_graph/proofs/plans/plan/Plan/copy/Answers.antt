use Rattle.std.proofs.Common.{◌∙◌, subst}
use Rattle.std.specs.List.{AllZip}
use Rattle.drv_graph.specs.PlanNodes.{IsSameNode}
use Rattle.drv_graph.proofs.Copies.{copy_sound, same_graph}
use Rattle.drv_graph.proofs.plans.plan.Plan.copy.Goals as goal

pub invariant_of-result : goal.invariant_of-result
invariant_of-result c =
    let zip = subst (λ nodes. AllZip IsSameNode nodes c.in_ok-nodes.nodes.items)
    c.deref.ensures.value c.in_ok-nodes.ensures.ok in
    copy_sound _ _ _ _
    _ zip (c.in_ok-roots.ensures.items ∙ c.deref-2.ensures.value)
    c.self.invariant

pub returns-clause-ok : goal.returns-clause-ok
returns-clause-ok c =
    let zip = subst (λ nodes. AllZip IsSameNode nodes c.in_ok-nodes.nodes.items)
    c.deref.ensures.value c.in_ok-nodes.ensures.ok in
    same_graph _ _ _ _
    _ zip (c.in_ok-roots.ensures.items ∙ c.deref-2.ensures.value)
    ∙ c.self.view_is
