use Rattle.std.proofs.Common.{◌≡◌, ◌∙◌, ap, refl, subst, None, Ok, rules}
use Rattle.drv_graph.specs.private.Walks.{IsStepping}
use Rattle.drv_graph.proofs.Going.{went_along, went_down}
use Rattle.drv_graph.proofs.Ends.{err_is}
use Rattle.drv_graph.proofs.walks.walk.go_on.Goals as goal
use Rattle.drv_graph.proofs.walks.walk.go_on.Goals.{in-Some+in_ok-push-2, in_default}

pub returns-in_err-push-clause-going_on : goal.returns-in_err-push-clause-going_on
returns-in_err-push-clause-going_on g c = search (rules, err_is)

pub returns-in_err-push-2-clause-going_on : goal.returns-in_err-push-2-clause-going_on
returns-in_err-push-2-clause-going_on g c = search (rules, err_is)

pub returns-clause-going_on : goal.returns-clause-going_on
returns-clause-going_on g c =
    elim c.match-child-2.branch [
      | in-Some+in_ok-push-2 w ↦
          went_down _ (g.S.DrvSource.gives _) _
          (record {
            nodes = c.args.found.now.nodes;
            marks = c.step.new.marks;
            owners = c.args.found.now.owners;
          }) _ _
          _ _ _ w.in-Some.child tt
          (record { nodes = refl; owners = refl })
          (subst (λ child. IsStepping c.args.rules.now.dir.now (g.S.DrvSource.gives
          c.args.source.now)
          c.args.found.now.marks c.step.new.marks c.args.visit c.step.new.visit (Ok child))
          w.in-Some.is c.in_ok-child.ensures.stepping)
          c.in_ok-push.ensures.items (ap (λ v. v.items) w.visits-is ∙ w.in_ok-push-2.ensures.items)
      | in_default w ↦
          let none : c.in_ok-child.child ≡ None = cc in
          went_along _ (g.S.DrvSource.gives _) _
          _ _
          _ _ _ _ _
          (record { nodes = refl; owners = refl }) none c.in_ok-child.ensures.stepping
          (ap (λ v. v.items) w.visits-is ∙ c.in_ok-push.ensures.items)
    ]
