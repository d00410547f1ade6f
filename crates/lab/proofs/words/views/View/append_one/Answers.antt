use Rattle.lab.proofs.words.views.View.append_one.Goals as goal

pub append-answer-requires-clause-new : goal.append-answer-requires-clause-new
append-answer-requires-clause-new g c =
    rw (
      c.args.self.now.same,
      c.requires.alike.1,
      ← c.table.ensures.value,
    ) c.in_default.ensures.0

pub append-answer-requires-clause-closed : goal.append-answer-requires-clause-closed
append-answer-requires-clause-closed g c =
    rw (
      c.args.self.now.same,
      c.requires.alike.1,
      ← c.table.ensures.value,
    ) c.in_default.ensures.1

pub push_reserved-requires-clause-new : goal.push_reserved-requires-clause-new
push_reserved-requires-clause-new g c = rw (← c.table.ensures.value) c.in_default.ensures.0

pub push_reserved-requires-clause-closed : goal.push_reserved-requires-clause-closed
push_reserved-requires-clause-closed g c = rw (← c.table.ensures.value) c.in_default.ensures.1
