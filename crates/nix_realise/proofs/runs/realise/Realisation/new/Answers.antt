use Rattle.std.proofs.lemmas.Result.{err_from_is_err_and}
use Rattle.nix_realise.proofs.WriteErrors.{not_begun}
use Rattle.nix_realise.proofs.runs.realise.Realisation.new.Goals as goal

pub returns-in_err-tried-clause-err : goal.returns-in_err-tried-clause-err
returns-in_err-tried-clause-err g c =
    let step = c.from_residual in
    let e = err_from_is_err_and step.result step.ensures.1 in
    rw e.1 (not_begun c.args.request.now e.0 e.2.1)
