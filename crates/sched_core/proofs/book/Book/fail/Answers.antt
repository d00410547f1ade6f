use Rattle.std.proofs.Common.{arith}
use Rattle.sched_core.proofs.BookSteps.{book_failed, lease_seen}
use Rattle.sched_core.proofs.Keeping.{has_begun, room_to_end}
use Rattle.sched_core.proofs.book.Book.fail.Goals as goal

pub push_reserved-requires : goal.push_reserved-requires
push_reserved-requires g c =
    let lease = lease_seen c.self.view_is (c.has_given.ensures.0 c.if-not-has_given.false) in
    omega (arith, room_to_end _ _ _ _ _ c.self.invariant.kept _ _ lease.building)

pub fail-requires : goal.fail-requires
fail-requires g c =
    let lease = lease_seen c.self.view_is (c.has_given.ensures.0 c.if-not-has_given.false) in
    has_begun _ _ _ _ _ c.self.invariant.kept _ _ lease.building

pub invariant_of-self : goal.invariant_of-self
invariant_of-self g c =
    let lease = lease_seen c.self.view_is (c.has_given.ensures.0 c.if-not-has_given.false) in
    book_failed _ _ _ _ _ _ _ _ _ _ _ _ _ _ _ c.self.invariant lease.building
    c.push_reserved.ensures.items c.fail.ensures c.push_reserved.ensures.capacity
