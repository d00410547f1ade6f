use Rattle.std.proofs.Common.{◌∙◌, subst}
use Rattle.valid_table.specs.Closure.{IsClosure}
use Rattle.builder_start.proofs.rows.Rows.closure.Goals as goal

pub returns-in-Ok : goal.returns-in-Ok
returns-in-Ok c =
    subst (λ rs. IsClosure rs c.args.roots.now c.in-Ok.paths.items)
    (c.self.invariant.0 ∙ c.self.view_is) c.in-Ok.ensures.1
