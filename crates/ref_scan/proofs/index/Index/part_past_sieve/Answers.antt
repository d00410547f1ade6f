use Rattle.std.proofs.Common.{◌∙◌, ap, subst, sym}
use Rattle.ref_scan.specs.private.Parts.{IsPartNumber, parts_told}
use Rattle.ref_scan.proofs.Indexing.{part_told}
use Rattle.ref_scan.proofs.index.Index.part_past_sieve.Goals as goal

pub returns-else-self : goal.returns-else-self
returns-else-self c =
    let s = c.self.inside in
    let apart = ap (λ b. parts_told b s.paths.items s.apart.items) (sym c.if-self.false)
    ∙ ap (λ v. v.parts) c.self.view_is in
    subst (λ parts. IsPartNumber parts c.args.window.now c.ok.result) apart
    (rw (c.ok.ensures.value, ← c.deref.ensures.value)
    (part_told c.deref.result.now c.args.window.now c.binary_search.result
    (rw c.deref.ensures.value (c.self.invariant.sorted c.if-self.false))
    c.binary_search.ensures.bound
    c.binary_search.ensures.position))
