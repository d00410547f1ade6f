use Rattle.std.proofs.Common.{◌≡◌, ◌∙◌, ◌==◌, ◌++◌, ◌∷◌, [], List, Option, None, ap, ap₂, length, map, not, rules, sym, tests}
use Rattle.std.proofs.lemmas.List.{map-append}
use Rattle.std.specs.Iterator.{Yields}
use Rattle.std.proofs.lemmas.Iterator.{YieldsList}
use Rattle.std.proofs.lemmas.Iterator.Consumers.{YieldsList-at, YieldsList-end, YieldsList-from_filter}
use Rattle.std.proofs.lemmas.Iterator.Splits.{YieldsList-from_slice_split}
use Rattle.nix_drv.specs.Parts.{bytes_of}
use Rattle.nix_names.specs.Bytes.{Bytes}
use Rattle.nix_realise.specs.RunSystems.{is_comma}
use Rattle.nix_realise.proofs.queries.run_system.named_features.Goals as goal

-- at the end of a loop all items were there
all_there : {S A B : Type 0} {steps : S → Option A → S → Type 0} {v : A → B} {s : S}
    {all : List B} (xs : List A) (t : S) (y : Yields steps s xs t) (r : Option A) (u : S)
    → r ≡ None → steps t r u → YieldsList steps v s all → map v xs ≡ all
all_there xs t y r u none step e = (YieldsList-end e xs t y r u none step).0

-- one item more
pushed : {A B C : Type 0} (f : A → C) (g : B → C) (xs new : List A) (ys : List B) (x : A) (y : B)
    → new ≡ xs ++ x ∷ [] → f x ≡ g y → map f xs ≡ map g ys → map f new ≡ map g (ys ++ y ∷ [])
pushed f g xs new ys x y grown same so_far =
    ap (map f) grown ∙ map-append f xs (x ∷ [])
    ∙ ap₂ (λ a b. a ++ b ∷ []) so_far same ∙ sym (map-append g ys (y ∷ []))

pub loop-word-preserved : goal.loop-word-preserved
loop-word-preserved c =
    pushed bytes_of (λ word. word.now) _ _ _ _ _ c.in_ok-push.ensures.items
    c.in_ok-from_slice.ensures.items c.loop-word.invariant

pub returns : goal.returns
returns c =
    c.loop-word.invariant
    ∙ all_there _ _ c.loop-word.yielded_by _ c.next.new.self c.in-None.is c.next.ensures.steps
    (YieldsList-at {t = c.filter-word-items.result} (cc)
    (YieldsList-from_filter _ (λ (word : Bytes). not (length word == 0))
    (YieldsList-at c.filter-word-items.ensures.source
    (YieldsList-from_slice_split _ is_comma c.args.text.now c.split.ensures.rest
    c.split.ensures.done c.split.ensures.closure (λ x b q k. search (rules, tests))))
    c.filter-word-items.ensures.closure (λ x b q k. search (rules, tests))))
