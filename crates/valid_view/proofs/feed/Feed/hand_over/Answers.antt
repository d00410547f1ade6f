use Rattle.std.proofs.Common.{◌∙◌}
use Rattle.valid_view.proofs.Feeds.{nothing_taken, nothing_waits}
use Rattle.valid_view.proofs.feed.Feed.hand_over.Goals as goal

pub returns-in_err-hand_held-clause-nothing : goal.returns-in_err-hand_held-clause-nothing
returns-in_err-hand_held-clause-nothing g c none =
    let f = c.args.self.now in
    absurd
    (cc (c.in_err-hand_held.ensures.nothing (nothing_waits f.handed f.held f.queue none).0))

pub returns-in_err-take_next-clause-nothing : goal.returns-in_err-take_next-clause-nothing
returns-in_err-take_next-clause-nothing g c none =
    let f = c.loop-self.self in
    absurd
    (cc (c.in_err-take_next.ensures.nothing
    (nothing_waits f.handed f.held f.queue (c.loop-self.invariant.1 ∙ none)).1))

pub returns-in_err-hand_held-2-clause-nothing : goal.returns-in_err-hand_held-2-clause-nothing
returns-in_err-hand_held-2-clause-nothing g c none =
    let f = c.loop-self.self in
    absurd
    (nothing_taken f.queue _ _ c.in_ok-take_next.field-0 c.in_ok-take_next.ensures.taken
    c.if-branch.true
    (nothing_waits f.handed f.held f.queue (c.loop-self.invariant.1 ∙ none)).1)
