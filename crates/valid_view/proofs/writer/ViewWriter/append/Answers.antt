use Rattle.valid_view.proofs.writer.ViewWriter.append.Goals as goal

pub append-requires-clause-new : goal.append-requires-clause-new
append-requires-clause-new g c = rw (← c.self.view_is) at c.requires.new

pub append-requires-clause-closed : goal.append-requires-clause-closed
append-requires-clause-closed g c = rw (← c.self.view_is) at c.requires.closed
