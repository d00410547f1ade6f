use Rattle.std.proofs.Common.{subst}
use Rattle.std.specs.Prelude.{OnOk}
use Rattle.build_outcome.specs.declared.job.Job.{Job}
use Rattle.store_run.specs.private.JobVerdicts.{HasCaughtUp}
use Rattle.store_run.proofs.locked.Locked.end.Goals as goal

pub end-end-requires-after_bounds : goal.end-end-requires-after_bounds
end-end-requires-after_bounds g c κs within = (
  c.args.reader.now.seen,
  c.requires,
  subst (λ (j : Job). OnOk c.catch_up-caught_up.result
      (HasCaughtUp c.args.reader.now.seen c.value-shared.result.now.book j)) c.job.ensures
      c.catch_up-caught_up.ensures.ok,
)
