use Rattle.std.proofs.Common.{◌∙◌, ap, inl, inr, refl, Err}
use Rattle.std.proofs.lemmas.Result.{err_from_is_err_and}
use Rattle.nix_realise.proofs.verification.verify.verify.Goals as goal

pub returns-in_err-named : goal.returns-in_err-named
returns-in_err-named g c =
    let e = err_from_is_err_and c.from_residual.result c.from_residual.ensures.1 in
    let t = c.in_err-named.ensures.err in
    (t.0, inl (c.in_err-named.field-0.0, e.1 ∙ ap Err e.2, refl, t.1))

pub returns : goal.returns
returns g c =
    let t = c.in_ok-named.ensures.ok in
    (t.0, inr (c.in_ok-named.journal, t.1.1, t.1.2, c.verify_by.ensures))
