use Rattle.std.proofs.Common.{drop}
use Rattle.valid_view.proofs.ShownTables.{shown_lined, shown_ok, shows}
use Rattle.valid_view.proofs.writer_end.WriterEnd.show.Goals as goal

pub publish_as-writer-requires : goal.publish_as-writer-requires
publish_as-writer-requires g c next is =
    let w = c.self.inside.writer in
    shows g.J.ListId.book _ _ w.desk.shown.value next (drop w.behind w.log.items)
    c.self.invariant.0 c.self.invariant.1 is

pub invariant_of-result : goal.invariant_of-result
invariant_of-result g c =
    let w = c.self.inside.writer in
    let w' = c.publish_as-writer.result.0 in
    shown_lined g.J.ListId.book w.desk.shown.value w'.desk.shown.value (drop w.behind w.log.items)
    (drop w'.behind w'.log.items) c.publish_as-writer.result.1 c.publish_as-writer.ensures.values
    c.self.invariant

pub returns-clause-ok : goal.returns-clause-ok
returns-clause-ok g c =
    let w = c.self.inside.writer in
    let w' = c.publish_as-writer.result.0 in
    rw (← c.self.view_is)
    (shown_ok g.J.ListId.book w.desk.shown.value w'.desk.shown.value (drop w.behind w.log.items)
    (drop w'.behind w'.log.items) c.publish_as-writer.result.1 c.publish_as-writer.ensures.values
    c.self.invariant)
