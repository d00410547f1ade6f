use Rattle.std.proofs.Common.{◌≡◌, ◌+◌, ◌++◌, ◌∷◌, ◌∙◌, [], ℕ, List, All, ap, arith, map, subst, sym, take}
use Rattle.std.specs.Str.{IsUtf8}
use Rattle.std.proofs.lemmas.List.{map_push, take_all}
use Rattle.std.proofs.lemmas.List.Elements.{All-push}
use Rattle.std.proofs.lemmas.Result.{err_from_is_err_and}
use Rattle.nix_names.proofs.Lists.{taken_more}
use Rattle.build_outcome.specs.declared.job.JobOutput.{JobOutput}
use Rattle.build_outcome.specs.declared.reason.Reason.TheVariants.{BadAttributes}
use Rattle.builder_start.specs.private.Shown.{output_of, shown_output}
use Rattle.builder_start.proofs.Files.{why_follows}
use Rattle.builder_start.proofs.given.output_paths.Goals as goal

abbrev Named : JobOutput → Type 0
Named o = IsUtf8 o.name.items

pub returns-in_err-output_path-clause-bad : goal.returns-in_err-output_path-clause-bad
returns-in_err-output_path-clause-bad c =
    let p = err_from_is_err_and c.from_residual.result c.from_residual.ensures.1 in
    rw (p.1, p.2)
    (why_follows BadAttributes _
    (λ none (all : All Named c.args.outputs.now). none
    (subst Named (sym c.output-item.is)
    (all c.outputs.output-index c.output-item.result (omega arith))))
    c.in_err-output_path.ensures.bad)

pub outputs-preserved : goal.outputs-preserved
outputs-preserved c =
    let l = c.outputs in
    let item = c.output-item.result in
    let path = c.in_ok-output_path.field-0 in
    let front = take l.output-index c.args.outputs.now in
    let more : take (l.output-index + 1) c.args.outputs.now ≡ front ++ item ∷ [] =
    taken_more c.args.outputs.now l.output-index item (omega arith) c.output-item.is in
    record {
      utf8 = subst (All Named) (sym more)
          (All-push Named front item l.invariant.utf8 c.in_ok-output_path.ensures.utf8);
      ok = ap (map shown_output) c.in_ok-push.ensures.items
          ∙ map_push shown_output l.paths.items path
          ∙ ap (λ ps. ps ++ shown_output path ∷ []) l.invariant.ok
          ∙ ap (λ (q : List ℕ × List ℕ). map output_of front ++ q ∷ [])
          c.in_ok-output_path.ensures.ok
          ∙ sym (ap (map output_of) more ∙ map_push output_of front item);
    }

pub returns-clause-utf8 : goal.returns-clause-utf8
returns-clause-utf8 c =
    subst (All Named) (take_all c.outputs.output-index c.args.outputs.now (omega arith))
    c.outputs.invariant.utf8
