use Rattle.std.proofs.Common.{◌≡◌, ◌+◌, ◌++◌, ◌∷◌, ◌∙◌, [], All, arith, refl, subst, sym, take}
use Rattle.std.specs.List.{AllZip}
use Rattle.std.specs.Str.{IsUtf8}
use Rattle.std.proofs.lemmas.List.{take_all}
use Rattle.std.proofs.lemmas.List.Elements.{All-push}
use Rattle.std.proofs.lemmas.Option.{slice_get_read}
use Rattle.std.proofs.lemmas.Result.{err_from_is_err_and}
use Rattle.nix_names.proofs.Lists.{Contains-from_get, taken_more}
use Rattle.structured_attrs.specs.Attributes.{attributes}
use Rattle.structured_attrs.specs.Checks.{AreChecks, said_of}
use Rattle.structured_attrs.specs.declared.checks.OutputChecks.{OutputChecks}
use Rattle.build_outcome.specs.declared.job.JobOutput.{JobOutput}
use Rattle.build_outcome.proofs.JobReadings.{refusal_follows, zip_push}
use Rattle.build_outcome.proofs.checks.job_checks.checks_of_all.Goals as goal

abbrev Named : JobOutput → Type 0
Named o = IsUtf8 o.name.items

pub returns-in_err-checks_of-clause-err : goal.returns-in_err-checks_of-clause-err
returns-in_err-checks_of-clause-err c =
    let p = err_from_is_err_and c.from_residual.result c.from_residual.ensures.1 in
    let at = slice_get_read _ _ _ _ refl c.loop-output-test.true c.output-item.is in
    rw (p.1, p.2)
    (refusal_follows _
    (λ bad. (c.output-item.result, Contains-from_get c.args.outputs.now _ _ at, bad))
    c.in_err-checks_of.ensures.err)

pub loop-output-preserved : goal.loop-output-preserved
loop-output-preserved c =
    let l = c.loop-output in
    let item = c.output-item.result in
    let front = take l.output-index c.args.outputs.now in
    let more : take (l.output-index + 1) c.args.outputs.now ≡ front ++ item ∷ [] =
    taken_more c.args.outputs.now l.output-index item c.loop-output-test.true c.output-item.is in
    record {
      named = subst (All Named) (sym more)
          (All-push Named front item l.invariant.named c.in_ok-checks_of.ensures.named);
      ok = subst (λ outputs. AllZip (λ (o : JobOutput) (of : OutputChecks).
          AreChecks (said_of o.name.items (attributes c.args.given.now)) of) outputs
          c.push.new.self.items) (sym more)
          (subst (λ all. AllZip (λ (o : JobOutput) (of : OutputChecks).
          AreChecks (said_of o.name.items (attributes c.args.given.now)) of) (front ++ item ∷ [])
          all) (sym c.in_ok-push.ensures.items)
          (zip_push (λ (o : JobOutput) (of : OutputChecks).
          AreChecks (said_of o.name.items (attributes c.args.given.now)) of) front l.all.items item
          c.in_ok-checks_of.field-0 l.invariant.ok c.in_ok-checks_of.ensures.ok));
    }

pub returns-clause-named : goal.returns-clause-named
returns-clause-named c =
    subst (All Named)
    (take_all c.loop-output.output-index c.args.outputs.now c.loop-output-test.false)
    c.loop-output.invariant.named
