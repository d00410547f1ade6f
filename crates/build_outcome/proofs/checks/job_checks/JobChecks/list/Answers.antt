use Rattle.std.proofs.Common.{◌∙◌, Some, ap}
use Rattle.build_outcome.proofs.JobReadings.{list_read}
use Rattle.build_outcome.proofs.checks.job_checks.JobChecks.list.Goals as goal

pub returns-in_ok-bytes_of-in-Some-said_list : goal.returns-in_ok-bytes_of-in-Some-said_list
returns-in_ok-bytes_of-in-Some-said_list c =
    ap Some c.in_ok-bytes_of-in-Some-said_list.ensures ∙ c.in-Some-said_list.ensures
    ∙ list_read c.args.job.now c.args.self.now _ c.args.n c.args.check c.in-Structured.is c.requires

pub returns-in-None-said_list : goal.returns-in-None-said_list
returns-in-None-said_list c =
    c.in-None-said_list.ensures
    ∙ list_read c.args.job.now c.args.self.now _ c.args.n c.args.check c.in-Structured.is c.requires
