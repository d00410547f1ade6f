use Rattle.std.proofs.Common.{false, subst, sym}
use Rattle.std.proofs.lemmas.List.Filters.{dedup_is}
use Rattle.ref_scan.specs.private.Parts.{ArePartsOf}
use Rattle.ref_scan.proofs.Indexing.{parts_sorted}
use Rattle.ref_scan.proofs.index.sorted_parts.Goals as goal

pub returns-clause-parts : goal.returns-clause-parts
returns-clause-parts c =
    subst (λ parts. ArePartsOf c.args.paths.now parts false)
    (sym (dedup_is _ _ _ c.dedup.ensures.filtered))
    (parts_sorted c.args.paths.now c.in_ok-parts.parts.items _ c.in_ok-parts.ensures.value
    c.in_ok-parts.ensures.are_parts c.sort_unstable.ensures.permutation
    c.sort_unstable.ensures.sorted)
