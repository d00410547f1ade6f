use Rattle.std.proofs.Common.{◌≡◌, ◌∙◌, ap, false, map, nat_eq, subst, sym}
use Rattle.std.specs.Cmp.Lexicographic.{nat_list_eq_equiv, pointwise}
use Rattle.std.specs.List.Sorted.{IsBinarySearchResult}
use Rattle.std.specs.Ordering.{nat_cmp}
use Rattle.std.proofs.lemmas.Bool.{false≢true}
use Rattle.nix_names.proofs.RisingLists.{equal_from_eq}
use Rattle.ref_scan.specs.private.Parts.{key_of_part}
use Rattle.ref_scan.proofs.RisingKeys.{none_found, part_found}
use Rattle.ref_scan.proofs.index.Index.part_by_key.Goals as goal

pub returns-in_err-number : goal.returns-in_err-number
returns-in_err-number c =
    let s = c.self.inside in
    let key = c.key_of-key.result in
    let ordered = ap (λ v. v.in_order) c.self.view_is ∙ c.requires in
    let told = ap (λ v. v.parts) c.self.view_is in
    let keys = c.self.invariant.of_parts ∙ ap (map key_of_part) told in
    let here = subst (λ ks. IsBinarySearchResult (λ y. nat_cmp y key) ks c.binary_search.result)
    c.deref.ensures.value c.binary_search.ensures.position in
    rw c.from_residual.ensures
    (none_found c.args.self.now.parts s.keys.items c.args.window.now key c.binary_search.result
    keys c.key_of-key.ensures (c.self.invariant.rising ordered) here c.in_err-number.ensures.value)

pub returns-then-eq : goal.returns-then-eq
returns-then-eq c =
    let found = part_found c.args.window.now c.index.result.now c.key_of-key.result
    c.in_ok-number.number c.binary_search.result c.self.invariant c.self.view_is c.requires
    c.key_of-key.ensures c.deref.ensures.value c.binary_search.ensures.position
    c.in_ok-number.ensures.value c.index.ensures in
    let same = equal_from_eq _ _ (sym c.eq.ensures ∙ c.if-eq.true) in
    (found.0, found.1 ∙ sym c.hash_part.ensures.value ∙ same ∙ c.as_slice.ensures)

pub returns-else-eq : goal.returns-else-eq
returns-else-eq c =
    let found = part_found c.args.window.now c.index.result.now c.key_of-key.result
    c.in_ok-number.number c.binary_search.result c.self.invariant c.self.view_is c.requires
    c.key_of-key.ensures c.deref.ensures.value c.binary_search.ensures.position
    c.in_ok-number.ensures.value c.index.ensures in
    let unlike : pointwise nat_eq c.hash_part.result.now c.as_slice.result.now ≡ false =
    sym c.eq.ensures ∙ c.if-eq.false in
    found.2
    (λ same.
    let alike : c.hash_part.result.now ≡ c.as_slice.result.now = c.hash_part.ensures.value
    ∙ sym found.1 ∙ same ∙ sym c.as_slice.ensures in
    false≢true (sym unlike ∙ ap (λ h. pointwise nat_eq h c.as_slice.result.now) alike
    ∙ nat_list_eq_equiv.refl c.as_slice.result.now))
