use Rattle.std.proofs.Common.{◌≡◌, ◌∙◌, ◌++◌, ◌∷◌, [], List, ap, ap₂, append_assoc, map, sym}
use Rattle.std.proofs.lemmas.List.{map-append}
use Rattle.process_build.specs.Setups.{text_entries}
use Rattle.process_build.specs.private.RawVars.{entry_of_raw}
use Rattle.process_build.proofs.process.entries.push_text_paths.Goals as goal

-- two more items after others
two_more : {A B : Type 0} (f : A → B) (old between new : List A) (x y : A) (u v : B)
    → between ≡ old ++ x ∷ [] → new ≡ between ++ y ∷ [] → f x ≡ u → f y ≡ v
    → map f new ≡ map f old ++ u ∷ v ∷ []
two_more f old between new x y u v first second xs ys =
    ap (map f) (second ∙ ap (λ l. l ++ y ∷ []) first) ∙ map-append f (old ++ x ∷ []) (y ∷ [])
    ∙ ap (λ l. l ++ f y ∷ []) (map-append f old (x ∷ []))
    ∙ append_assoc (map f old) (f x ∷ []) (f y ∷ [])
    ∙ ap₂ (λ p q. map f old ++ p ∷ q ∷ []) xs ys

pub returns-in_ok-push-in-Structured-2 : goal.returns-in_ok-push-in-Structured-2
returns-in_ok-push-in-Structured-2 c =
    two_more entry_of_raw _ _ _ _ _ _ _ c.in_ok-push-in-Structured.ensures.items
    c.in_ok-push-in-Structured-2.ensures.items c.in_ok-path_var-in-Structured.ensures
    c.in_ok-path_var-in-Structured-2.ensures
    ∙ ap (λ p. map entry_of_raw c.args.entries.now.items ++ text_entries c.args.folder.now p)
    (sym c.in-Structured.is)
