use Rattle.run_states.proofs.PlanInputs.{numbers_at}
use Rattle.run_report.proofs.forecast.foretold.inputs_of.Goals as goal

pub returns-clause-numbers : goal.returns-clause-numbers
returns-clause-numbers c = numbers_at c.args.plan.now c.args.d c.inputs.result.now c.requires
    c.inputs.ensures.sound c.inputs.ensures.numbers
