use Rattle.std.proofs.Common.{◌≡◌, ◌∙◌, ◌++◌, take, drop, length, arith, ap, subst}
use Rattle.ref_scan.specs.private.Marks.{Searched}
use Rattle.ref_scan.proofs.Scanning.{scanned_fed, written}
use Rattle.ref_scan.proofs.marks.Marks.feed.Goals as goal

pub invariant_of-self : goal.invariant_of-self
invariant_of-self c =
    let s = c.self.inside in
    let piece = c.args.piece.now in
    let seam = c.seam-seam.result.items in
    let one = c.search.new.met in
    let two = c.search-2.new.met in
    let lent = c.deref_mut.ensures.value in
    let long : length one ≡ s.met.len = omega
    (arith, c.search.ensures.count, c.deref_mut.ensures.len) in
    let same = written one (drop (length one) s.met.items) s.met.len long in
    let lent' = c.deref_mut-2.ensures.value ∙ same in
    let long' : length two ≡ s.met.len = omega (arith, c.search-2.ensures.count, ap length lent') in
    let same' = written two
    (drop (length two) (take s.met.len (one ++ drop (length one) s.met.items))) s.met.len long'
    in
    let first = subst (λ met. Searched s.index.parts met one seam) lent
    (subst (Searched s.index.parts c.deref_mut.result.now one) c.as_slice-2.ensures.value
    c.search.ensures) in
    let second = subst (λ met. Searched s.index.parts met two piece) lent' c.search-2.ensures in
    let seam_is : seam ≡ s.tail.items ++ take 31 piece = c.seam-seam.ensures
    ∙ ap (λ l. l ++ take 31 piece) c.as_slice.ensures.value in
    let kept = c.tail_after-self-inside.ensures s.fed.present
    (c.as_slice-3.ensures.value ∙ seam_is ∙ ap (λ l. l ++ take 31 piece) c.self.invariant.kept)
    in
    rw (same', c.and-self-inside.ensures.0, c.and-self-inside.ensures.1)
    (scanned_fed s.index.permitted s.index.parts s.fed.ended s.index.in_order s.fed.present piece
    seam
    s.met.items one two s.tail.items c.tail_after-self-inside.result.items
    c.self.invariant seam_is first second kept)
