use Rattle.std.proofs.Common.{◌≡◌, ◌+◌, ◌++◌, ◌∷◌, ◌∙◌, [], ℕ, List, String, Global, All, ap, arith, inr, refl, string_bytes, subst, sym, take}
use Rattle.std.proofs.lemmas.List.{map_push}
use Rattle.std.proofs.lemmas.List.Elements.{All-contains, All-push}
use Rattle.nix_names.proofs.Lists.{Contains-map, taken_more}
use Rattle.valid_table.specs.Valid.{IsValid}
use Rattle.builder_start.specs.private.Shown.{texts_of}
use Rattle.builder_start.proofs.requests.paths_of.Goals as goal

pub returns-in-None-clause-bad : goal.returns-in-None-clause-bad
returns-in-None-clause-bad c =
    let P = IsValid c.args.rows.now in
    let item = c.text-item.result in
    inr (
      refl,
      λ all.
          c.in-None.ensures
          (subst P (sym c.as_bytes.ensures.value)
          (All-contains P (texts_of c.args.texts.now) (string_bytes item) all
          (Contains-map (λ (s : String Global). string_bytes s) c.args.texts.now item
          (c.texts.text-index, omega arith, sym c.text-item.is)))),
    )

pub texts-preserved : goal.texts-preserved
texts-preserved c =
    let l = c.texts in
    let P = IsValid c.args.rows.now in
    let item = c.text-item.result in
    let path = c.in_ok-copy-in-Some.field-0 in
    let front = take l.text-index c.args.texts.now in
    let items = c.in_ok-push-in-Some.ensures.items in
    let same = c.in_ok-copy-in-Some.ensures.same in
    let more : take (l.text-index + 1) c.args.texts.now ≡ front ++ item ∷ [] =
    taken_more c.args.texts.now l.text-index item (omega arith) c.text-item.is in
    record {
      ok = items
          ∙ ap (λ (ps : List (List ℕ)). ps ++ path ∷ []) l.invariant.ok
          ∙ ap (λ (q : List ℕ). texts_of front ++ q ∷ [])
          (same ∙ c.in-Some.ensures.0 ∙ c.as_bytes.ensures.value)
          ∙ sym (ap texts_of more ∙ map_push (λ (s : String Global). string_bytes s) front item);
      valid = subst (All P) (sym items)
          (All-push P l.paths.items path l.invariant.valid (subst P (sym same) c.in-Some.ensures.1));
    }
