use Rattle.std.proofs.Common.{◌∙◌, ap, inl, inr, refl, Err}
use Rattle.std.proofs.lemmas.Result.{err_from_is_err_and}
use Rattle.nix_realise.specs.declared.cli.run_error.RunError.TheVariants.{NoMemory}
use Rattle.nix_realise.proofs.runs.realise.Realisation.build_traced.Goals as goal

pub returns-in_err-builders : goal.returns-in_err-builders
returns-in_err-builders g c =
    let step = c.from_residual in
    let e = err_from_is_err_and step.result step.ensures.1 in
    inr (NoMemory, e.1 ∙ ap Err e.2, refl, inr tt)

pub returns : goal.returns
returns g c = inl (_, refl, c.build.ensures)
