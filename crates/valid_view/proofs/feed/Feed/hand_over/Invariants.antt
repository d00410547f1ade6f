-- What is shown and what waits stays; nothing is held. The queue gets shorter.
use Rattle.std.proofs.Common.{◌≡◌, [], length}
use Rattle.valid_view.specs.private.Feeding.{pending_of}
use Rattle.valid_view.proofs.feed.Feed.hand_over.Given as goal

abbrev pub invariant-loop-self : goal.invariant-loop-self
invariant-loop-self g l = (l.self.shown ≡ l.fn.self.shown)
    × (pending_of l.self ≡ pending_of l.fn.self) × (l.self.held ≡ [])

abbrev pub decreases-loop-self : goal.decreases-loop-self
decreases-loop-self g l = length l.self.queue
