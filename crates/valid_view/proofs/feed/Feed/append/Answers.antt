use Rattle.valid_view.specs.private.Feeding.{ops_of}
use Rattle.valid_view.proofs.Feeds.{feed_push}
use Rattle.valid_view.proofs.feed.Feed.append.Goals as goal

pub invariant_of-self-2 : goal.invariant_of-self-2
invariant_of-self-2 g c =
    let f = c.self.inside in
    rw c.in_ok-push_back.ensures.items
    (feed_push g.J.ListId.book f.end.shown f.end.handed (ops_of f.held) f.queue.items f.prefix
    c.args.entry c.self.invariant
    (rw c.registrations.ensures.value at c.registrations.ensures.rising)
    (rw (← c.self.view_is) at c.requires.new) (rw (← c.self.view_is) at c.requires.closed))
