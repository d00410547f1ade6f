use Rattle.valid_table.proofs.path_table.table.Table.register.Goals as goal

pub register_reserved-requires-clause-new : goal.register_reserved-requires-clause-new
register_reserved-requires-clause-new c = rw (c.in_ok-copy.ensures.ok, c.reserve.ensures.same)
    c.in_default.ensures.0

pub register_reserved-requires-clause-closed : goal.register_reserved-requires-clause-closed
register_reserved-requires-clause-closed c = rw (c.in_ok-copy.ensures.ok, c.reserve.ensures.same)
    c.in_default.ensures.1
