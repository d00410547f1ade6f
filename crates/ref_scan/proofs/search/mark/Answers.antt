use Rattle.std.proofs.Common.{subst, arith}
use Rattle.ref_scan.specs.private.Parts.{IsPartNumber}
use Rattle.ref_scan.proofs.Indexing.{marked_one}
use Rattle.ref_scan.proofs.search.mark.Goals as goal

pub bounds-met-number : goal.bounds-met-number
bounds-met-number c =
    let at = subst (IsPartNumber c.args.index.now.parts c.args.window.now) c.in-Some.is
    c.part_number.ensures in
    omega (arith, at.0, c.requires.count)

pub returns-in-Some : goal.returns-in-Some
returns-in-Some c =
    let at = subst (IsPartNumber c.args.index.now.parts c.args.window.now) c.in-Some.is
    c.part_number.ensures in
    marked_one c.args.index.now.parts c.args.met.now c.args.window.now c.in-Some.number
    c.requires.are_parts.rising c.requires.count at
