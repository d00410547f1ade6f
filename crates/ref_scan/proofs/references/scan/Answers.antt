use Rattle.std.proofs.Common.{◌≡◌, ◌∙◌, ◌++◌, ◌∷◌, [], ap, subst, sym}
use Rattle.std.specs.Prelude.{Contains}
use Rattle.ref_scan.specs.Scan.{IsFoundIn}
use Rattle.ref_scan.specs.Trees.{pieces}
use Rattle.ref_scan.proofs.Pieces.{found_before_none}
use Rattle.ref_scan.proofs.Scanning.{sought_of}
use Rattle.ref_scan.proofs.references.scan.Goals as goal

pub found-requires : goal.found-requires
found-requires c =
    rw (ap (λ m. m.permitted) c.in_ok-feed_tree.ensures ∙ c.in_ok-marks.ensures.permitted)
    c.requires

pub returns : goal.returns
returns c =
    let tree = c.args.tree.now in
    let permitted = c.args.permitted.now in
    let marks = c.in_ok-marks.marks in
    let fed : c.feed_tree.new.marks
    ≡ sought_of permitted marks.parts marks.in_order (pieces tree) [] = c.in_ok-feed_tree.ensures
    ∙ ap (λ l. sought_of marks.permitted marks.parts marks.in_order (l ++ pieces tree) [])
    c.in_ok-marks.ensures.fed.0
    ∙ ap (λ ps. sought_of ps marks.parts marks.in_order (pieces tree) [])
    c.in_ok-marks.ensures.permitted
    in
    let found = c.in_ok-found.field-0.items in
    found_before_none (pieces tree) permitted found
    (λ path has. c.in_ok-found.ensures.are_parts path
    (subst (λ ps. Contains ps path) (sym (ap (λ m. m.permitted) fed)) has))
    (subst (λ f. IsFoundIn (f.ended ++ f.present ∷ []) f.permitted found) fed
    c.in_ok-found.ensures.found)
