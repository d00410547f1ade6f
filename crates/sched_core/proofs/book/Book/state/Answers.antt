use Rattle.std.proofs.Common.{◌∙◌}
use Rattle.sched_core.proofs.KeptStates.{states_told}
use Rattle.sched_core.proofs.book.Book.state.Goals as goal

pub returns : goal.returns
returns g c =
    rw (← c.self.view_is) (c.state.ensures ∙ states_told _ _ _ _ _ c.self.invariant.kept _)
