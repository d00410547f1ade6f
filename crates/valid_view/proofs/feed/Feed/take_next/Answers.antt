use Rattle.valid_view.proofs.Feeds.{first_follows}
use Rattle.valid_view.proofs.feed.Feed.take_next.Goals as goal

pub add-requires : goal.add-requires
add-requires g c =
    rw c.again-prefix.ensures
    (first_follows c.self.inside.prefix c.in-Some.entry c.pop_front.new.self.items
    (rw c.in-Some.ensures.items at c.self.invariant.showable))
