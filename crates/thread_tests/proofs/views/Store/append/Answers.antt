use Rattle.thread_tests.proofs.views.Store.append.Goals as goal

pub append-requires-clause-new : goal.append-requires-clause-new
append-requires-clause-new g c =
    rw (
      c.args.self.now.same,
      c.in_ok-entry.ensures.alike.1,
      ← c.in_ok-reserve.ensures.same,
      ← c.table.ensures.value,
    ) c.in_default.ensures.0

pub append-requires-clause-closed : goal.append-requires-clause-closed
append-requires-clause-closed g c =
    rw (
      c.args.self.now.same,
      c.in_ok-entry.ensures.alike.1,
      ← c.in_ok-reserve.ensures.same,
      ← c.table.ensures.value,
    ) c.in_default.ensures.1

pub push_reserved-requires-clause-new : goal.push_reserved-requires-clause-new
push_reserved-requires-clause-new g c = rw (← c.table.ensures.value) c.in_default.ensures.0

pub push_reserved-requires-clause-closed : goal.push_reserved-requires-clause-closed
push_reserved-requires-clause-closed g c = rw (← c.table.ensures.value) c.in_default.ensures.1
