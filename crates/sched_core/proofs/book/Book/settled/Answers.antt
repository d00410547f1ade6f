use Rattle.sched_core.proofs.KeptStates.{settled_told}
use Rattle.sched_core.proofs.book.Book.settled.Goals as goal

pub returns : goal.returns
returns g c =
    let told = settled_told _ _ _ _ _ c.self.invariant.kept in
    rw (← c.self.view_is) (
      λ yes. told.0 (c.settled.ensures.0 yes),
      λ settled. c.settled.ensures.1 (told.1 settled),
    )
