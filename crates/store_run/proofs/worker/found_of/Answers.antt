use Rattle.std.proofs.Common.{Err, inl, refl, subst, sym}
use Rattle.sched_core.specs.Books.{AreSeedsValid}
use Rattle.build_outcome.specs.declared.job.Job.{Job}
use Rattle.build_outcome.specs.declared.reason.Reason.TheVariants.{OutOfMemory}
use Rattle.store_run.specs.Starts.{IsStart}
use Rattle.store_run.proofs.worker.found_of.Goals as goal

pub start-requires : goal.start-requires
start-requires g c =
    subst (AreSeedsValid c.args.reader.now.told) (sym c.job.ensures) c.requires

pub run_builder-requires-clause-seeds : goal.run_builder-requires-clause-seeds
run_builder-requires-clause-seeds g c =
    subst (λ told. AreSeedsValid told c.args.lease.now.job) (sym c.start.ensures.told) c.requires

pub run_builder-requires-clause-start : goal.run_builder-requires-clause-start
run_builder-requires-clause-start g c =
    subst (λ (job : Job). IsStart c.start.new.reader.seen job c.in-Ok.prepared) c.job.ensures
    c.in-Ok.ensures.start

pub returns-in-Err : goal.returns-in-Err
returns-in-Err g c = record {
  outcome = Err OutOfMemory;
  given = inl refl;
  by = (refl, c.in-Err.ensures.err);
}
