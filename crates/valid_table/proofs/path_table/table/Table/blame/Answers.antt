use Rattle.valid_table.proofs.path_table.table.Table.blame.Goals as goal

pub returns : goal.returns
returns c = rw (← c.self.view_is, ← c.registrations.ensures.value) c.blame.ensures
