use Rattle.std.proofs.Common.{◌∙◌, ◌<◌, ap, arith, length}
use Rattle.run_states.specs.declared.state.State.TheVariants.{Blocked}
use Rattle.run_states.proofs.Wanting.{any_default}
use Rattle.run_report.specs.Forecasts.{Opening}
use Rattle.run_report.proofs.Held.{held_count, held_state}
use Rattle.run_report.proofs.forecast.Forecast.state.Goals as goal

pub index-requires : goal.index-requires
index-requires c = omega (
  arith,
  held_count _ _ _ _ c.self.invariant,
  ap (λ (o : Opening). length o.run.graph.nodes) c.self.view_is,
)

pub returns : goal.returns
returns c =
    let count = held_count _ _ _ _ c.self.invariant in
    let low : c.args.d < length c.self.inside.plan.nodes =
    omega (arith, ap (λ (o : Opening). length o.run.graph.nodes) c.self.view_is) in
    rw (← c.self.view_is)
    (c.index.ensures
    ∙ any_default c.self.inside.states.items c.args.d c.index.result.now Blocked
    (omega (arith, count, low))
    ∙ held_state _ _ _ _ c.self.invariant c.args.d low)
