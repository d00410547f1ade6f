use Rattle.std.proofs.Common.{◌≡◌, ◌+◌, [], ◌∷◌, drop, sym, ap, ◌∙◌, arith}
use Rattle.std.proofs.lemmas.List.{drop_all, drop_more}
use Rattle.serde_json.specs.Data.{string, item}
use Rattle.serde_json.specs.View.{view}
use Rattle.structured_attrs.specs.Graphs.{path_items}
use Rattle.structured_attrs.proofs.ReadSteps.{items_before, items_before-no_items, items_push}
use Rattle.structured_attrs.proofs.graph.path_strings.Goals as goal

pub paths-preserved : goal.paths-preserved
paths-preserved c =
    let l = c.paths in
    let xs = c.args.paths.now in
    let x = c.path-item.result in
    let v = c.in_ok-try_from_str.field-0 in
    let done = l.items.items in
    let rest = path_items (drop (l.path-index + 1) xs) in
    let here : drop l.path-index xs ≡ x ∷ drop (l.path-index + 1) xs = drop_more xs l.path-index x (omega arith) ∙ ap (λ y. y ∷ drop (l.path-index + 1) xs) (sym c.path-item.is) in
    let seen : view v ≡ string x = c.in_ok-try_from_str.ensures ∙ ap string c.as_str.ensures in
    ap (λ vs. items_before vs rest) c.in_ok-push.ensures.items ∙ sym (items_push done v rest)
    ∙ ap (λ d. items_before done (item d rest)) seen
    ∙ ap (λ left. items_before done (path_items left)) (sym here) ∙ l.invariant

pub returns : goal.returns
returns c =
    let l = c.paths in
    let none : drop l.path-index c.args.paths.now ≡ [] = drop_all l.path-index c.args.paths.now (omega arith) in
    sym (items_before-no_items l.items.items) ∙ ap (λ left. items_before l.items.items (path_items left)) (sym none) ∙ l.invariant
