use Rattle.lab.proofs.words.journals.append.Goals as goal

pub append-answer-requires-clause-new : goal.append-answer-requires-clause-new
append-answer-requires-clause-new c =
    rw (c.requires, ← c.table.ensures.value) c.in_default.ensures.0

pub append-answer-requires-clause-closed : goal.append-answer-requires-clause-closed
append-answer-requires-clause-closed c =
    rw (c.requires, ← c.table.ensures.value) c.in_default.ensures.1
