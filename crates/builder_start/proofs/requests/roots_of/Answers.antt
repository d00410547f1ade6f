use Rattle.std.proofs.Common.{◌++◌, ◌∙◌, ℕ, List, All, ap, arith, map, subst, sym, take}
use Rattle.std.proofs.lemmas.List.Elements.{All-append}
use Rattle.std.proofs.lemmas.Result.{err_from_is_err_and}
use Rattle.valid_table.specs.Valid.{IsValid}
use Rattle.build_outcome.specs.declared.reason.Reason.TheVariants.{BadGraph}
use Rattle.structured_attrs.specs.Graphs.{shown_request}
use Rattle.builder_start.specs.Structured.{texts_asked}
use Rattle.builder_start.specs.private.Shown.{texts_of}
use Rattle.builder_start.proofs.Files.{why_follows}
use Rattle.builder_start.proofs.TextsAsked.{of_request, texts_more}
use Rattle.builder_start.proofs.requests.roots_of.Goals as goal

pub returns-in_err-paths-clause-bad : goal.returns-in_err-paths-clause-bad
returns-in_err-paths-clause-bad c =
    let p = err_from_is_err_and c.from_residual.result c.from_residual.ensures.1 in
    let P = IsValid c.args.rows.now in
    rw (p.1, p.2)
    (why_follows BadGraph _
    (λ none all. none
    (subst (λ ss. All P (texts_of ss)) (sym c.deref.ensures.value)
    (of_request P c.args.requests.now c.requests.request-index c.request-item.result (omega arith)
    c.request-item.is all)))
    c.in_err-paths.ensures.bad)

pub requests-preserved : goal.requests-preserved
requests-preserved c =
    let l = c.requests in
    let P = IsValid c.args.rows.now in
    let items = c.in_ok-append.ensures.items in
    record {
      ok = items
          ∙ ap (λ (ps : List (List ℕ)). ps ++ c.in_ok-paths.paths.items) l.invariant.ok
          ∙ ap (λ (ps : List (List ℕ)). texts_asked (map shown_request (take l.request-index c.args.requests.now)) ++ ps)
          (c.in_ok-paths.ensures.ok ∙ ap texts_of c.deref.ensures.value)
          ∙ sym (texts_more c.args.requests.now l.request-index c.request-item.result (omega arith) c.request-item.is);
      valid = subst (All P) (sym items)
          (All-append P l.roots.items c.in_ok-paths.paths.items l.invariant.valid c.in_ok-paths.ensures.valid);
    }
