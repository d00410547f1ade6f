use Rattle.build_outcome.specs.declared.job.Answer.{Answer}
use Rattle.build_outcome.specs.declared.job.Job.{Job}
use Rattle.build_outcome.specs.declared.reason.Reason.{Reason}
use Rattle.std.proofs.Common.{Result}
use Rattle.std.specs.Prelude.{⊤}
use Rattle.thread_tests.proofs.Examined.{may_be_examined, unprepared_is_examined}
use Rattle.thread_tests.proofs.hearing.WorkerBuild.run_examined.Goals as goal

pub returns-clause-outcome : goal.returns-clause-outcome
returns-clause-outcome g c =
    may_be_examined c.args.job.now c.args.permitted.now
    (λ (job : Job) (outcome : Result Answer Reason). ⊤) c.run-outcome.result c.examined.result
    c.run-outcome.ensures.outcome c.examined.ensures

pub returns-clause-unprepared : goal.returns-clause-unprepared
returns-clause-unprepared g c =
    unprepared_is_examined c.args.job.now c.args.permitted.now c.args.prepared.now c.run-outcome.result
    c.examined.result c.run-outcome.ensures.unprepared c.examined.ensures
