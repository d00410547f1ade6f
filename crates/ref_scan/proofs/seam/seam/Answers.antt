use Rattle.std.proofs.Common.{◌∙◌, ◌++◌, ap, arith, length}
use Rattle.std.proofs.lemmas.List.{length-take}
use Rattle.ref_scan.proofs.Indexing.{on_ok}
use Rattle.ref_scan.proofs.Seams.{joined}
use Rattle.ref_scan.proofs.seam.seam.Goals as goal

pub returns : goal.returns
returns c =
    let none = ap length c.new-seam.ensures in
    let one = c.try_extend_from_slice in
    let front = on_ok one.result _ (one.ensures.variant.1 (omega arith)) one.ensures.ok in
    let head = front ∙ ap (λ l. l ++ c.args.tail.now) c.new-seam.ensures in
    let two = c.try_extend_from_slice-2 in
    let short = length-take c.min.result c.args.piece.now in
    let whole = on_ok two.result _ (two.ensures.variant.1 (omega (arith, ap length head)))
    two.ensures.ok in
    joined c.args.tail.now c.args.piece.now one.new.self.items two.new.self.items c.min.result head
    whole c.min.ensures
