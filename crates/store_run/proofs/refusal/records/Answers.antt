use Rattle.sched_core.proofs.Permitting.{all_are_valid}
use Rattle.store_run.proofs.Permits.{known_valid}
use Rattle.store_run.proofs.refusal.records.Goals as goal

pub of_reader-requires : goal.of_reader-requires
of_reader-requires g c = λ path is.
    let known = rw is at c.in-Err.ensures.known in
    let first = rw is at c.in-Err.ensures.answer in
    all_are_valid _ _ path
    (known_valid c.args.reader.now c.records.new.self.seen c.args.roots.now c.requires known.0
    c.in-Err.ensures.later)
    first
