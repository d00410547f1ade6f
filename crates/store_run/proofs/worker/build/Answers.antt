use Rattle.store_run.proofs.worker.build.Goals as goal

pub found_of-found-requires : goal.found_of-found-requires
found_of-found-requires g c = c.learn.ensures.seeds
