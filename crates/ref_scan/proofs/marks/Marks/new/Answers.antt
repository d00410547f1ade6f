use Rattle.std.proofs.Common.{sym, subst}
use Rattle.ref_scan.specs.private.Parts.{ArePartsOf}
use Rattle.ref_scan.proofs.Scanning.{scanned_new}
use Rattle.ref_scan.proofs.marks.Marks.new.Goals as goal

pub invariant_of-result : goal.invariant_of-result
invariant_of-result c =
    let index = c.in_ok-index.index in
    rw (c.new-3.ensures.0, c.new-3.ensures.1, c.new-2.ensures)
    (scanned_new index.permitted index.parts index.in_order c.in_ok-met.met.items c.len.result
    (subst (λ paths. ArePartsOf paths index.parts index.in_order)
    (sym c.in_ok-index.ensures.permitted) c.in_ok-index.ensures.parts)
    (c.in_ok-met.ensures.items_if_clones_equal (λ y e. e)) c.len.ensures)
