use Rattle.std.proofs.Common.{subst, sym}
use Rattle.std.proofs.lemmas.Result.{err_from_is_err_and}
use Rattle.std.specs.Prelude.{All}
use Rattle.valid_table.specs.Entries.{registered}
use Rattle.valid_table.specs.Valid.{IsValid}
use Rattle.nix_realise.proofs.VerifyEndings.{not_asked}
use Rattle.nix_realise.proofs.verification.verify.verify_by.Goals as goal

pub returns-in_err-paths : goal.returns-in_err-paths
returns-in_err-paths g c =
    let e = err_from_is_err_and c.from_residual.result c.from_residual.ensures.1 in
    rw (e.1, e.2)
    (not_asked c.args.request.now c.args.journal.now (g.O.Write.contents c.args.out.now)
    c.in_err-paths.field-0.0 c.in_err-paths.ensures.err)

pub verify_all-requires : goal.verify_all-requires
verify_all-requires g c =
    subst (All (IsValid (registered c.args.journal.now.entries))) (sym c.deref.ensures.value)
    c.in_ok-paths.ensures.valid
