use Rattle.std.proofs.Common.{ap, drop}
use Rattle.valid_view.proofs.ShownTables.{appended}
use Rattle.valid_view.proofs.writer_end.WriterEnd.append.Goals as goal

pub invariant_of-self : goal.invariant_of-self
invariant_of-self g c =
    let old = c.self.inside.writer in
    let new = c.append.new.self in
    appended g.J.ListId.book old.desk.shown.value new.desk.shown.value
    (drop old.behind old.log.items) (drop new.behind new.log.items) c.args.op c.append.result
    (ap (λ d. d.shown.value) c.append.ensures.desk) c.append.ensures.pending c.self.invariant
    c.requires.named (rw (← c.self.view_is) at c.requires.next)
