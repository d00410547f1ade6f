use Rattle.std.proofs.Common.{◌∙◌, All, ap, map, subst, sym}
use Rattle.std.specs.Str.{IsUtf8}
use Rattle.std.proofs.lemmas.Result.{err_from_is_err_and}
use Rattle.structured_attrs.specs.Attributes.{attributes}
use Rattle.build_outcome.specs.declared.job.JobOutput.{JobOutput}
use Rattle.build_outcome.specs.declared.reason.Reason.TheVariants.{BadAttributes}
use Rattle.builder_start.specs.private.Shown.{output_of, texts_of}
use Rattle.builder_start.proofs.Files.{why_follows}
use Rattle.builder_start.proofs.Taken.{SaysOf, all_taken, not_asked, not_checked, not_features, not_impure, not_named, not_read}
use Rattle.builder_start.proofs.given.taken.Goals as goal

pub returns-in_err-attributes-clause-bad : goal.returns-in_err-attributes-clause-bad
returns-in_err-attributes-clause-bad c =
    let p = err_from_is_err_and c.from_residual.result c.from_residual.ensures.1 in
    rw (p.1, p.2)
    (why_follows BadAttributes _ (not_read c.args.job.now c.args.text.now)
    c.in_err-attributes.ensures.bad)

pub returns-in_err-impure-clause-bad : goal.returns-in_err-impure-clause-bad
returns-in_err-impure-clause-bad c =
    let p = err_from_is_err_and c.from_residual-in_err-impure.result c.from_residual-in_err-impure.ensures.1 in
    rw (p.1, p.2)
    (why_follows BadAttributes _
    (not_impure c.args.job.now c.args.text.now _ c.in_ok-attributes.ensures.ok.1)
    c.in_err-impure.ensures.bad)

pub returns-in_err-_features-clause-bad : goal.returns-in_err-_features-clause-bad
returns-in_err-_features-clause-bad c =
    let p = err_from_is_err_and c.from_residual-in_err-_features.result c.from_residual-in_err-_features.ensures.1 in
    rw (p.1, p.2)
    (why_follows BadAttributes _
    (not_features c.args.job.now c.args.text.now _ c.in_ok-attributes.ensures.ok.1)
    c.in_err-_features.ensures.bad)

pub returns-in_err-requests-clause-bad : goal.returns-in_err-requests-clause-bad
returns-in_err-requests-clause-bad c =
    let p = err_from_is_err_and c.from_residual-in_err-requests.result c.from_residual-in_err-requests.ensures.1 in
    rw (p.1, p.2)
    (why_follows BadAttributes _
    (not_asked c.args.job.now c.args.text.now _ c.in_ok-attributes.ensures.ok.1)
    c.in_err-requests.ensures.bad)

pub returns-in_err-outputs-clause-bad : goal.returns-in_err-outputs-clause-bad
returns-in_err-outputs-clause-bad c =
    let p = err_from_is_err_and c.from_residual-in_err-outputs.result c.from_residual-in_err-outputs.ensures.1 in
    rw (p.1, p.2)
    (why_follows BadAttributes _
    (λ none. not_named c.args.job.now c.args.text.now (λ all. none
    (subst (All (λ (o : JobOutput). IsUtf8 o.name.items)) (sym c.deref.ensures.value) all)))
    c.in_err-outputs.ensures.bad)

pub returns-in_err-check_outputs-clause-bad : goal.returns-in_err-check_outputs-clause-bad
returns-in_err-check_outputs-clause-bad c =
    let p = err_from_is_err_and c.from_residual-in_err-check_outputs.result c.from_residual-in_err-check_outputs.ensures.1 in
    rw (p.1, p.2)
    (why_follows BadAttributes _
    (λ none. not_checked c.args.job.now c.args.text.now (attributes c.in_ok-attributes.attributes)
    c.in_ok-outputs.outputs.items c.in_ok-attributes.ensures.ok.1
    (c.in_ok-outputs.ensures.ok ∙ ap (map output_of) c.deref.ensures.value)
    (λ all. none (subst (All (SaysOf (attributes c.in_ok-attributes.attributes)))
    (sym c.deref-2.ensures.value) all)))
    c.in_err-check_outputs.ensures.bad)

pub returns-clause-ok : goal.returns-clause-ok
returns-clause-ok c =
    all_taken c.args.job.now c.args.text.now _ (texts_of c.in_ok-_features._features.items)
    c.in_ok-attributes.ensures.ok.0 c.in_ok-attributes.ensures.ok.1 c.in_ok-impure.ensures.ok
    c.in_ok-_features.ensures.ok c.in_ok-requests.ensures.ok
    (subst (All (λ (o : JobOutput). IsUtf8 o.name.items)) c.deref.ensures.value
    c.in_ok-outputs.ensures.utf8)
    (c.in_ok-outputs.ensures.ok ∙ ap (map output_of) c.deref.ensures.value)
    (subst (All (SaysOf (attributes c.in_ok-attributes.attributes))) c.deref-2.ensures.value
    c.in_ok-check_outputs.ensures.ok)
