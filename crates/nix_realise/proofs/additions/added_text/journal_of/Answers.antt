use Rattle.std.proofs.Common.{◌∙◌, ap, subst, sym, Err}
use Rattle.std.proofs.lemmas.Result.{err_from_is_err_and}
use Rattle.valid_table.specs.Reading.{IsJournalReading}
use Rattle.nix_realise.proofs.Journals.{journal_refused}
use Rattle.nix_realise.specs.Files.{file_bytes}
use Rattle.nix_realise.proofs.additions.added_text.journal_of.Goals as goal

pub returns-in_err-read-in-Ok : goal.returns-in_err-read-in-Ok
returns-in_err-read-in-Ok c =
    let e = err_from_is_err_and c.from_residual.result c.from_residual.ensures.1 in
    let gave = sym c.bytes_or_none.ensures ∙ ap file_bytes c.in-Ok.is in
    let reading =
    subst (λ b. IsJournalReading c.args.dir.now b (Err c.in_err-read-in-Ok.field-0.0))
    c.deref.ensures.value c.in_err-read-in-Ok.ensures in
    rw (e.1, e.2)
    (journal_refused c.args.dir.now _ c.in-Ok.bytes.items c.in_err-read-in-Ok.field-0.0 gave
    reading)
