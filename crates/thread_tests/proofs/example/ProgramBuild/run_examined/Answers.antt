use Rattle.store_run.specs.ScheduleExample.{may_leave}
use Rattle.thread_tests.proofs.Examined.{may_be_examined, unprepared_is_examined}
use Rattle.thread_tests.proofs.example.ProgramBuild.run_examined.Goals as goal

pub returns-clause-outcome : goal.returns-clause-outcome
returns-clause-outcome c =
    may_be_examined c.args.job.now c.args.permitted.now may_leave c.run-outcome.result c.examined.result
    c.run-outcome.ensures.outcome c.examined.ensures

pub returns-clause-unprepared : goal.returns-clause-unprepared
returns-clause-unprepared c =
    unprepared_is_examined c.args.job.now c.args.permitted.now c.args.prepared.now c.run-outcome.result
    c.examined.result c.run-outcome.ensures.unprepared c.examined.ensures
