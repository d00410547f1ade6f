use Rattle.sched_core.proofs.FailedStates.{had_seeds}
use Rattle.sched_core.proofs.KeptStates.{report_told}
use Rattle.sched_core.proofs.book.Book.report.Goals as goal

pub named_paths-requires : goal.named_paths-requires
named_paths-requires g c = had_seeds _ _ _ _ _ c.self.invariant.kept

pub returns : goal.returns
returns g c = record {
  ok = rw (← c.self.view_is)
      (report_told _ _ _ _ _ c.self.invariant.kept _ _ c.in_ok-named.ensures.ok
      (rw c.deref.ensures.value at c.in_ok-text.ensures));
}
