use Rattle.std.proofs.Common.{◌∙◌, ap, inl, inr, refl, Err}
use Rattle.std.proofs.lemmas.Result.{err_from_is_err_and}
use Rattle.nix_realise.proofs.queries.plan.plan.Goals as goal

pub returns-in_err-task : goal.returns-in_err-task
returns-in_err-task g c =
    let e = err_from_is_err_and c.from_residual.result c.from_residual.ensures.1 in
    let t = c.in_err-task.ensures.err in
    (t.0, inl (c.in_err-task.field-0.0, e.1 ∙ ap Err e.2, refl, t.1))

pub returns-in_err-system : goal.returns-in_err-system
returns-in_err-system g c =
    let step = c.from_residual-in_err-system in
    let e = err_from_is_err_and step.result step.ensures.1 in
    let t = c.in_ok-task.ensures.ok in
    (t.0, inr (c.in_ok-task.task, t.1, inl (e.1 ∙ ap Err e.2, refl)))

pub returns : goal.returns
returns g c =
    let t = c.in_ok-task.ensures.ok in (
      t.0,
      inr (
        c.in_ok-task.task,
        t.1,
        inr (c.in_ok-system.system, c.in_ok-system.ensures, c.print_forecast.ensures),
      ),
    )
