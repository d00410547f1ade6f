use Rattle.sched_core.proofs.DoneEntries.{judged}
use Rattle.sched_core.proofs.done_entry.are_fitting.Goals as goal

pub returns : goal.returns
returns c =
    judged _ _ _ _
    _ c.if-records-paths.false
    (c.are_new.ensures.0 c.if-not-are_new.false) c.have_digest.ensures
