use Rattle.std.proofs.Common.{rules}
use Rattle.drv_graph.proofs.Reading.{opens_made}
use Rattle.drv_graph.proofs.InStore.{inputs_in_store}
use Rattle.drv_graph.proofs.walks.walk.open.Goals as goal

pub begin-requires : goal.begin-requires
begin-requires g c = search (rules, inputs_in_store)

pub returns-clause-opening : goal.returns-clause-opening
returns-clause-opening g c =
    opens_made _ (g.S.DrvSource.gives _) _
    _ _ _ _ _
    _ _ c.in_ok-visit.ensures.path c.in_ok-drv.ensures.reading
    c.in_ok-visit.ensures.drv c.in_ok-visit.ensures.inputs c.in_ok-visit.ensures.numbers
    c.in_ok-key.ensures.same c.in_ok-insert.ensures.updates c.requires c.len.ensures.len
    c.in_ok-insert.ensures.old c.in_ok-insert.ensures.len
