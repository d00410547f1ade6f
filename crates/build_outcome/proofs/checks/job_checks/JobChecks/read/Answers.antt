use Rattle.std.proofs.Common.{All, subst, sym}
use Rattle.std.specs.List.{AllZip}
use Rattle.std.specs.Str.{IsUtf8}
use Rattle.std.proofs.lemmas.Result.{err_from_is_err_and}
use Rattle.structured_attrs.specs.Attributes.{attributes}
use Rattle.structured_attrs.specs.Checks.{AreChecks, said_of}
use Rattle.structured_attrs.specs.declared.checks.OutputChecks.{OutputChecks}
use Rattle.build_outcome.specs.declared.job.JobOutput.{JobOutput}
use Rattle.build_outcome.proofs.JobReadings.{bad_output, not_json, refusal_follows}
use Rattle.build_outcome.proofs.checks.job_checks.JobChecks.read.Goals as goal

pub returns-in_err-given-in-Some-clause-err : goal.returns-in_err-given-in-Some-clause-err
returns-in_err-given-in-Some-clause-err c =
    let p = err_from_is_err_and c.from_residual.result c.from_residual.ensures.1 in
    rw (p.1, p.2)
    (refusal_follows _ (not_json c.args.job.now c.in-Some.text.now (sym c.in-Some.ensures))
    c.in_err-given-in-Some.ensures.err)

pub returns-in_err-checks-in-Some-clause-err : goal.returns-in_err-checks-in-Some-clause-err
returns-in_err-checks-in-Some-clause-err c =
    let p = err_from_is_err_and c.from_residual-in_err-checks-in-Some.result
    c.from_residual-in_err-checks-in-Some.ensures.1 in
    rw (p.1, p.2)
    (refusal_follows _
    (λ bad. bad_output c.args.job.now c.in-Some.text.now (sym c.in-Some.ensures) _
    c.in_ok-given-in-Some.ensures.ok.1 (rw c.deref.ensures.value at bad))
    c.in_err-checks-in-Some.ensures.err)

pub returns-in_ok-checks-in-Some-clause-ok : goal.returns-in_ok-checks-in-Some-clause-ok
returns-in_ok-checks-in-Some-clause-ok c = (
  c.in-Some.text.now,
  sym c.in-Some.ensures,
  record {
    given = attributes c.in_ok-given-in-Some.given;
    utf8 = c.in_ok-given-in-Some.ensures.ok.0;
    read = c.in_ok-given-in-Some.ensures.ok.1;
    named = subst (All (λ (o : JobOutput). IsUtf8 o.name.items)) c.deref.ensures.value
        c.in_ok-checks-in-Some.ensures.named;
    each = subst (λ outputs. AllZip (λ (o : JobOutput) (of : OutputChecks).
        AreChecks (said_of o.name.items (attributes c.in_ok-given-in-Some.given)) of) outputs
        c.in_ok-checks-in-Some.checks.items) c.deref.ensures.value
        c.in_ok-checks-in-Some.ensures.ok;
  },
)
