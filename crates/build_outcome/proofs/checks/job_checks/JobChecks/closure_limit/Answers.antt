use Rattle.std.proofs.Common.{◌∙◌, ap}
use Rattle.std.specs.Prelude.{option_and_then}
use Rattle.structured_attrs.specs.declared.checks.OutputChecks.{OutputChecks}
use Rattle.build_outcome.proofs.JobReadings.{closure_limit_told}
use Rattle.build_outcome.proofs.checks.job_checks.JobChecks.closure_limit.Goals as goal

pub returns-in-Some : goal.returns-in-Some
returns-in-Some c = λ job are.
    ap (option_and_then (λ (of : OutputChecks). of.max_closure_size)) c.in-Some.ensures
    ∙ closure_limit_told job c.args.self.now c.args.n are

pub returns-in-None : goal.returns-in-None
returns-in-None c = λ job are.
    ap (option_and_then (λ (of : OutputChecks). of.max_closure_size)) c.in-None.ensures
    ∙ closure_limit_told job c.args.self.now c.args.n are
