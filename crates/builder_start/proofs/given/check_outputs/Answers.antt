use Rattle.std.proofs.Common.{◌≡◌, ◌+◌, ◌++◌, ◌∷◌, [], All, arith, subst, sym, take}
use Rattle.std.proofs.lemmas.List.{take_all}
use Rattle.std.proofs.lemmas.List.Elements.{All-push}
use Rattle.std.proofs.lemmas.Result.{err_from_is_err_and}
use Rattle.nix_names.proofs.Lists.{taken_more}
use Rattle.structured_attrs.specs.Attributes.{attributes}
use Rattle.structured_attrs.specs.Checks.{said_of}
use Rattle.build_outcome.specs.declared.reason.Reason.TheVariants.{BadAttributes}
use Rattle.builder_start.specs.Structured.{SayChecks}
use Rattle.builder_start.proofs.Files.{why_follows}
use Rattle.builder_start.proofs.Taken.{SaysOf}
use Rattle.builder_start.proofs.given.check_outputs.Goals as goal

pub returns-in_err-check_output-clause-bad : goal.returns-in_err-check_output-clause-bad
returns-in_err-check_output-clause-bad c =
    let Says = SaysOf (attributes c.args.given.now) in
    let p = err_from_is_err_and c.from_residual.result c.from_residual.ensures.1 in
    rw (p.1, p.2)
    (why_follows BadAttributes _
    (λ none (all : All Says c.args.outputs.now). none
    (subst (λ name. SayChecks (said_of name (attributes c.args.given.now)))
    (sym c.as_str.ensures.value)
    (subst Says (sym c.output-item.is)
    (all c.outputs.output-index c.output-item.result (omega arith)))))
    c.in_err-check_output.ensures.bad)

pub outputs-preserved : goal.outputs-preserved
outputs-preserved c =
    let l = c.outputs in
    let Says = SaysOf (attributes c.args.given.now) in
    let item = c.output-item.result in
    let front = take l.output-index c.args.outputs.now in
    let more : take (l.output-index + 1) c.args.outputs.now ≡ front ++ item ∷ [] =
    taken_more c.args.outputs.now l.output-index item (omega arith) c.output-item.is in
    subst (All Says) (sym more)
    (All-push Says front item l.invariant
    (subst (λ name. SayChecks (said_of name (attributes c.args.given.now)))
    c.as_str.ensures.value c.in_ok-check_output.ensures.ok))

pub returns-clause-ok : goal.returns-clause-ok
returns-clause-ok c =
    subst (All (SaysOf (attributes c.args.given.now)))
    (take_all c.outputs.output-index c.args.outputs.now (omega arith)) c.outputs.invariant
