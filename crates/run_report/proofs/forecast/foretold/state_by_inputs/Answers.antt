use Rattle.std.proofs.Common.{◌∙◌, ◌<◌, ap, arith, get_or, length, refl, sym}
use Rattle.run_states.specs.States.{is_good}
use Rattle.run_states.specs.declared.state.State.TheVariants.{Blocked}
use Rattle.run_states.proofs.Wanting.{any_default}
use Rattle.run_report.specs.private.Holding.{state_at}
use Rattle.run_report.proofs.Passing.{bad_unless_good, built_after, refused_after}
use Rattle.run_report.proofs.forecast.foretold.state_by_inputs.Goals as goal

pub returns-then-not-is_good-clause-by : goal.returns-then-not-is_good-clause-by
returns-then-not-is_good-clause-by c =
    let index = c.loop-input.input-index in
    let input = get_or c.args.inputs.now index 0 in
    let low : input < length c.args.earlier.now = c.requires.within index 0 c.loop-input-test.true
    in
    refused_after (state_at c.args.earlier.now) c.args.inputs.now index input
    c.loop-input-test.true refl c.loop-input.invariant
    (bad_unless_good (state_at c.args.earlier.now input) (c.requires.closed input Blocked low)
    (ap is_good (any_default c.args.earlier.now input Blocked _ low)
    ∙ sym c.is_good.ensures ∙ c.if-not-is_good.true))

pub returns-clause-by : goal.returns-clause-by
returns-clause-by c = built_after (state_at c.args.earlier.now) c.args.inputs.now
    c.loop-input.input-index (omega (arith, c.loop-input-test.false)) c.loop-input.invariant
