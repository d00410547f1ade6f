use Rattle.std.proofs.Common.{arith, subst}
use Rattle.drv_graph.specs.private.Walks.{IsTextFaultAt}
use Rattle.drv_graph.proofs.Reading.{reading_wrong}
use Rattle.drv_graph.proofs.walks.walk.read_drv.Goals as goal

pub returns-clause-reading : goal.returns-clause-reading
returns-clause-reading g c =
    reading_wrong _ (g.S.DrvSource.gives _) _
    _ _ _ _
    _ (omega (arith, c.if-count-ge-MAX_NODES.false))
    c.in_ok-bytes.ensures.fetching c.deref.ensures.value c.in-Err.ensures
    (subst (λ path. IsTextFaultAt path c.in-Err.fault c.text_fault_at.result)
    c.in_ok-copy-in-Err.ensures.same c.text_fault_at.ensures)
