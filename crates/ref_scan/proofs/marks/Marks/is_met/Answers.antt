use Rattle.std.proofs.Common.{◌≡◌, ◌∙◌, ◌++◌, ◌∷◌, [], ◌↔◌, false, get_or, arith, ap, subst, sym}
use Rattle.std.specs.Prelude.{Contains, IsTrue, Some}
use Rattle.std.proofs.lemmas.List.{get_or_default}
use Rattle.std.proofs.lemmas.List.Elements.{Contains-get_or}
use Rattle.nix_names.specs.StorePaths.{hash_part_of}
use Rattle.ref_scan.specs.private.Parts.{ArePartsOf, IsPartNumber}
use Rattle.ref_scan.specs.Scan.{OccursIn}
use Rattle.ref_scan.specs.private.Scanned.{Scanned}
use Rattle.ref_scan.proofs.Scanning.{met_at, part_in_order}
use Rattle.ref_scan.proofs.marks.Marks.is_met.Goals as goal

pub returns-then-is_in_order : goal.returns-then-is_in_order
returns-then-is_in_order c =
    let s = c.self.inside in
    let paths = c.args.paths.now in
    let number = c.args.number in
    let sought = c.args.self.now in
    let scanned = subst (λ v. Scanned v s.met.items s.tail.items) c.self.view_is c.self.invariant in
    let of_paths = subst (λ ps. ArePartsOf ps sought.parts sought.in_order)
    (sym c.requires.permitted)
    scanned.of_paths in
    let at = part_in_order paths sought.parts sought.in_order number of_paths
    (ap (λ v. v.in_order) (sym c.self.view_is) ∙ sym c.is_in_order.ensures ∙ c.if-is_in_order.true)
    c.requires.number in
    let same : c.index.result.now ≡ get_or s.met.items number false = c.index.ensures
    ∙ get_or_default s.met.items number c.index.result.now false
    (omega (arith, at.0, scanned.count)) in
    subst (λ b. IsTrue b ↔ OccursIn (hash_part_of (get_or paths number []))
    (sought.ended ++ sought.present ∷ [])) (sym same)
    (met_at sought s.met.items s.tail.items
    (hash_part_of (get_or paths number [])) number scanned at)

pub returns-in-Some : goal.returns-in-Some
returns-in-Some c =
    let s = c.self.inside in
    let paths = c.args.paths.now in
    let number = c.args.number in
    let sought = c.args.self.now in
    let scanned = subst (λ v. Scanned v s.met.items s.tail.items) c.self.view_is c.self.invariant in
    let path : c.index-paths-number.result ≡ get_or paths number [] = c.index-paths-number.is
    ∙ get_or_default paths number c.index-paths-number.result [] c.requires.number in
    let part = c.part_of.ensures.value ∙ ap hash_part_of path in
    let parts = ap (λ v. v.parts) c.self.view_is in
    let at = subst (λ ps. IsPartNumber ps (hash_part_of (get_or paths number []))
    (Some c.in-Some.part))
    parts (c.in-Some.ensures.0, c.in-Some.ensures.1 ∙ part) in
    let same : c.index-in-Some.result.now
    ≡ get_or s.met.items c.in-Some.part false = c.index-in-Some.ensures
    ∙ get_or_default s.met.items c.in-Some.part c.index-in-Some.result.now false
    (omega (arith, at.0, scanned.count)) in
    subst (λ b. IsTrue b ↔ OccursIn (hash_part_of (get_or paths number []))
    (sought.ended ++ sought.present ∷ [])) (sym same)
    (met_at sought s.met.items s.tail.items
    (hash_part_of (get_or paths number [])) c.in-Some.part scanned at)

pub returns-in-None : goal.returns-in-None
returns-in-None c =
    let paths = c.args.paths.now in
    let number = c.args.number in
    let sought = c.args.self.now in
    let scanned = subst (λ v. Scanned v c.self.inside.met.items c.self.inside.tail.items)
    c.self.view_is
    c.self.invariant in
    let of_paths = subst (λ ps. ArePartsOf ps sought.parts sought.in_order)
    (sym c.requires.permitted)
    scanned.of_paths in
    let path : c.index-paths-number.result ≡ get_or paths number [] = c.index-paths-number.is
    ∙ get_or_default paths number c.index-paths-number.result [] c.requires.number in
    let part = c.part_of.ensures.value ∙ ap hash_part_of path in
    let parts = ap (λ v. v.parts) c.self.view_is in
    let has = of_paths.known (get_or paths number [])
    (Contains-get_or paths number [] c.requires.number) in
    absurd (c.in-None.ensures (subst (λ ps. Contains ps c.part_of.result) (sym parts)
    (subst (Contains c.args.self.now.parts) (sym part) has)))
