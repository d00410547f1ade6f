use Rattle.std.proofs.Common.{◌∙◌, ap, inr, refl, Err}
use Rattle.std.proofs.lemmas.Result.{err_from_is_err_and}
use Rattle.nix_realise.specs.declared.cli.run_error.RunError.TheVariants.{NoMemory}
use Rattle.nix_realise.proofs.runs.realise.Realisation.start.Goals as goal

pub returns-in_err-logs : goal.returns-in_err-logs
returns-in_err-logs g c =
    let step = c.from_residual in
    let e = err_from_is_err_and step.result step.ensures.1 in
    inr (c.in_err-logs.field-0.0, e.1 ∙ ap Err e.2, refl, inr c.in_err-logs.ensures.err)

pub returns-in_err-drvs : goal.returns-in_err-drvs
returns-in_err-drvs g c =
    let step = c.from_residual-in_err-drvs in
    let e = err_from_is_err_and step.result step.ensures.1 in
    inr (NoMemory, e.1 ∙ ap Err e.2, refl, inr tt)

pub returns-in_err-sink : goal.returns-in_err-sink
returns-in_err-sink g c =
    let step = c.from_residual-in_err-sink in
    let e = err_from_is_err_and step.result step.ensures.1 in
    inr (NoMemory, e.1 ∙ ap Err e.2, refl, inr tt)

pub returns-in_err-system : goal.returns-in_err-system
returns-in_err-system g c =
    let step = c.from_residual-in_err-system in
    let e = err_from_is_err_and step.result step.ensures.1 in
    inr (NoMemory, e.1 ∙ ap Err e.2, refl, inr tt)

pub returns : goal.returns
returns g c = c.build_traced.ensures
