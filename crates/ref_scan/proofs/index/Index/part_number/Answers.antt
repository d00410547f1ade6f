use Rattle.std.proofs.Common.{◌∙◌, ap, arith, length, map, sym, ⊎_elim, ◌≡◌, ◌<◌, get_or}
use Rattle.std.proofs.lemmas.List.{get_or_default}
use Rattle.ref_scan.specs.private.Parts.{key_of_part, slot_of}
use Rattle.ref_scan.proofs.Indexing.{stopped}
use Rattle.ref_scan.proofs.index.Index.part_number.Goals as goal

pub returns-then-held : goal.returns-then-held
returns-then-held c =
    let s = c.self.inside in
    let first = c.first_of-first.result.now in
    let slot = c.slot_of.result in
    let told = ap (λ v. v.parts) c.self.view_is in
    let many : c.len.result ≡ length s.sieve.items = omega (arith, c.len.ensures, s.sieve.ok) in
    let slot_is : slot ≡ slot_of (length s.sieve.items) first = c.slot_of.ensures.value
    ∙ ap (λ n. slot_of n first) many in
    let fits : slot < length s.sieve.items = omega (arith, c.slot_of.ensures.within, many) in
    let held : get_or s.sieve.items (slot_of (length s.sieve.items) first) 0 ≡
    c.index-held.result.now =
    ap (λ n. get_or s.sieve.items n 0) (sym slot_is)
    ∙ sym (c.index-held.ensures ∙ get_or_default s.sieve.items slot c.index-held.result.now 0 fits)
    in
    stopped c.args.self.now.parts s.keys.items s.sieve.items c.args.window.now first
    (c.self.invariant.of_parts ∙ ap (map key_of_part) told) c.first_of-first.ensures
    (omega arith) (λ i. omega (arith, c.fits-window i)) c.self.invariant.sieved
    (⊎_elim (λ tag. c.if-held-tag_of.true (sym held ∙ tag.0 ∙ sym c.tag_of.ensures))
    (λ all. c.if-held.true (sym held ∙ all)))
