use Rattle.lab.proofs.words.journals.push.Goals as goal

pub push_reserved-answer-requires-clause-new : goal.push_reserved-answer-requires-clause-new
push_reserved-answer-requires-clause-new c =
    rw (← c.table.ensures.value) c.in_default.ensures.0

pub push_reserved-answer-requires-clause-closed : goal.push_reserved-answer-requires-clause-closed
push_reserved-answer-requires-clause-closed c =
    rw (← c.table.ensures.value) c.in_default.ensures.1
