use Rattle.std.proofs.Common.{◌≡◌, ◌+◌, [], ◌∷◌, None, String, Global, drop, map, string_bytes, sym, ap, ◌∙◌, arith}
use Rattle.std.proofs.lemmas.List.{drop_more}
use Rattle.serde_json.specs.View.{view, items_view}
use Rattle.structured_attrs.specs.Strings.{item_texts, text_of}
use Rattle.structured_attrs.proofs.Gathered.{gathered, gathered-missing}
use Rattle.structured_attrs.proofs.strings.item_strings.Goals as goal

pub returns-in_err-string_of-clause-bad : goal.returns-in_err-string_of-clause-bad
returns-in_err-string_of-clause-bad c refused =
    let l = c.items in
    let xs = c.deref-item-items.result.now in
    let x = c.item-item.result in
    let done = map (λ (s : String Global). string_bytes s) l.strings.items in
    let here : drop l.item-index xs ≡ x ∷ drop (l.item-index + 1) xs = drop_more xs l.item-index x (omega arith) ∙ ap (λ y. y ∷ drop (l.item-index + 1) xs) (sym c.item-item.is) in
    let missing : text_of (view x) ≡ None = c.string_of.ensures.bad (grind arith) in
    ap (λ ys. item_texts (items_view ys)) (sym c.deref-item-items.ensures.value) ∙ sym l.invariant
    ∙ ap (λ ys. gathered done (item_texts (items_view ys))) here
    ∙ gathered-missing (λ text. text ∷ []) done (text_of (view x)) (item_texts (items_view (drop (l.item-index + 1) xs))) missing
