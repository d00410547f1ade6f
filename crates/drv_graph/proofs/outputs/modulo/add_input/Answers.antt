use Rattle.std.proofs.Common.{◌≡◌, ◌∙◌, ◌++◌, ◌∷◌, ◌-◌, [], List, set, vec_len, ap, rules}
use Rattle.std.specs.Cmp.Lexicographic.{bytes_decides}
use Rattle.std.proofs.lemmas.Bool.{false≢true}
use Rattle.std.proofs.lemmas.List.{set-get_or}
use Rattle.nix_drv.specs.declared.derivation.Input.{Input}
use Rattle.drv_graph.proofs.Gathering.{appends_other, joins}
use Rattle.drv_graph.proofs.outputs.modulo.add_input.Goals as goal

pub returns-then-eq-clause-value : goal.returns-then-eq-clause-value
returns-then-eq-clause-value c = search (rules, joins)

pub returns-clause-value : goal.returns-clause-value
returns-clause-value c =
    let items = c.args.gathered.now.items in
    let last = c.in-Some.last.now in
    let at = vec_len c.args.gathered.now - 1 in
    let kept : set items at last ≡ items = ap (set items at) c.in-Some.ensures.value
    ∙ set-get_or items at last in
    appends_other _ _ _ _ _ c.args.gathered.now.ok.0
    (c.in-Some.ensures.variant.0 (search rules)) c.in-Some.ensures.value
    (λ same. false≢true (c.if-eq.ensures ∙ (bytes_decides _ _).1 same))
    (c.push_reserved-2.ensures.items ∙ ap (λ (xs : List Input). xs ++ c.args.input ∷ []) kept)
