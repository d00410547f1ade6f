use Rattle.std.proofs.Common.{Err, inl, refl, subst, sym}
use Rattle.sched_core.specs.Books.{AreSeedsValid}
use Rattle.build_outcome.specs.declared.reason.Reason.TheVariants.{OutOfMemory}
use Rattle.store_run.proofs.worker.run_builder.Goals as goal

pub permitted-requires : goal.permitted-requires
permitted-requires g c =
    subst (AreSeedsValid c.args.reader.now.told) (sym c.job-job.ensures) c.requires.seeds

pub returns-in-Err : goal.returns-in-Err
returns-in-Err g c = record {
  outcome = Err OutOfMemory;
  given = inl refl;
  by = (refl, c.in-Err.ensures.err);
}
