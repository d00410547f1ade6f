use Rattle.std.proofs.Common.{◌∙◌, Some, None}
use Rattle.build_outcome.proofs.Knowns.{asked_plain, plain_record}
use Rattle.build_outcome.proofs.record.addressed_digest.Goals as goal

pub returns-in-Some : goal.returns-in-Some
returns-in-Some c job permitted output known same kind =
    plain_record c.args.profile output.tree (Some c.in-Some.digest) c.in-Plain.is
    (c.in-Some.ensures job permitted output known
    (asked_plain job.profile job.kind (same ∙ c.in-Plain.is) kind))

pub returns-in-None : goal.returns-in-None
returns-in-None c job permitted output known same kind =
    plain_record c.args.profile output.tree None c.in-Plain.is
    (c.in-None.ensures job permitted output known
    (asked_plain job.profile job.kind (same ∙ c.in-Plain.is) kind))
