use Rattle.std.proofs.Common.{◌∙◌, ap, sym}
use Rattle.run_states.specs.States.{is_good}
use Rattle.run_report.specs.Forecasts.{foretold}
use Rattle.run_report.proofs.Passing.{are_whole, not_whole}
use Rattle.run_report.proofs.forecast.Forecast.is_whole.Goals as goal

pub returns-then-not-is_good : goal.returns-then-not-is_good
returns-then-not-is_good c =
    let self = c.args.self.now in
    rw (c.roots-root-items.ensures, c.plan-plan.ensures) at
    (not_whole (foretold self.run self.entries) c.roots-root-items.result.now c.roots.root-index
    c.roots-test.true
    (ap is_good (sym c.state.ensures) ∙ sym c.is_good.ensures ∙ c.if-not-is_good.true))

pub returns : goal.returns
returns c =
    let self = c.args.self.now in
    rw (c.roots-root-items.ensures, c.plan-plan.ensures) at
    (are_whole (foretold self.run self.entries) c.roots-root-items.result.now c.roots.root-index
    c.roots-test.false c.roots.invariant)
