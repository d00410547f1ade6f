use Rattle.ref_scan.proofs.Scanning.{scanned_cut}
use Rattle.ref_scan.proofs.marks.Marks.cut.Goals as goal

pub invariant_of-self : goal.invariant_of-self
invariant_of-self c =
    let s = c.self.inside in
    rw (c.cut-self-inside.ensures.0, c.cut-self-inside.ensures.1, c.clear.ensures)
    (scanned_cut s.index.permitted s.index.parts s.fed.ended s.index.in_order s.fed.present
    s.met.items
    s.tail.items c.self.invariant)
