use Rattle.build_outcome.proofs.JobReadings.{asked_told, list_read}
use Rattle.std.proofs.Common.{◌∙◌}
use Rattle.build_outcome.proofs.checks.job_checks.JobChecks.has_list.Goals as goal

pub returns-in-Structured : goal.returns-in-Structured
returns-in-Structured c =
    asked_told _ _ _ _ c.is_some-in-Structured.ensures
    (c.said_list.ensures
    ∙ list_read c.args.job.now c.args.self.now _ c.args.n c.args.check c.in-Structured.is c.requires)
