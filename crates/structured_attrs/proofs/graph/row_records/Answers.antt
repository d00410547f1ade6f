use Rattle.std.proofs.Common.{◌≡◌, ◌+◌, [], ◌∷◌, drop, sym, ap, ◌∙◌, arith}
use Rattle.std.proofs.lemmas.List.{drop_all, drop_more}
use Rattle.serde_json.specs.Data.{item}
use Rattle.structured_attrs.specs.Graphs.{row_items}
use Rattle.structured_attrs.proofs.ReadSteps.{items_before, items_before-no_items, items_push}
use Rattle.structured_attrs.proofs.graph.row_records.Goals as goal

pub rows-preserved : goal.rows-preserved
rows-preserved c =
    let l = c.rows in
    let xs = c.args.rows.now in
    let x = c.row-item.result in
    let v = c.in_ok-row_record.field-0 in
    let done = l.records.items in
    let rest = row_items (drop (l.row-index + 1) xs) in
    let here : drop l.row-index xs ≡ x ∷ drop (l.row-index + 1) xs = drop_more xs l.row-index x (omega arith) ∙ ap (λ y. y ∷ drop (l.row-index + 1) xs) (sym c.row-item.is) in
    ap (λ vs. items_before vs rest) c.in_ok-push.ensures.items ∙ sym (items_push done v rest)
    ∙ ap (λ d. items_before done (item d rest)) c.in_ok-row_record.ensures
    ∙ ap (λ left. items_before done (row_items left)) (sym here) ∙ l.invariant

pub returns : goal.returns
returns c =
    let l = c.rows in
    let none : drop l.row-index c.args.rows.now ≡ [] = drop_all l.row-index c.args.rows.now (omega arith) in
    sym (items_before-no_items l.records.items) ∙ ap (λ left. items_before l.records.items (row_items left)) (sym none) ∙ l.invariant
