use Rattle.sched_core.proofs.KeptStates.{unsettled_told}
use Rattle.sched_core.proofs.book.Book.unsettled.Goals as goal

pub returns : goal.returns
returns g c =
    rw (← c.self.view_is)
    (unsettled_told _ _ _ _ _ c.self.invariant.kept _ c.unsettled.ensures)
