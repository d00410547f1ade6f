use Rattle.std.proofs.Common.{inl, inr, subst, Ok, Err}
use Rattle.std.proofs.lemmas.Result.{err_from_is_err_and}
use Rattle.nix_realise.specs.AddedText.{IsJournalOf}
use Rattle.nix_realise.specs.Files.{FileBytes, journal_bytes}
use Rattle.nix_realise.specs.declared.io.files.FileFault.TheVariants.{Unreadable}
use Rattle.nix_realise.proofs.queries.read_task.read_task.Goals as goal

pub returns-in_err-dir-clause-err : goal.returns-in_err-dir-clause-err
returns-in_err-dir-clause-err g c =
    let none : FileBytes = Err Unreadable in
    let step = c.from_residual in
    let e = err_from_is_err_and step.result step.ensures.1 in
    rw (e.1, e.2) (none, inl c.in_err-dir.ensures.err)

pub returns-in_err-file-clause-err : goal.returns-in_err-file-clause-err
returns-in_err-file-clause-err g c =
    let none : FileBytes = Err Unreadable in
    let step = c.from_residual-in_err-file in
    let e = err_from_is_err_and step.result step.ensures.1 in
    rw (e.1, e.2) (none, inl (λ no. no c.in_ok-dir.ensures.ok.1.0.0))

pub returns-in_err-task-clause-err : goal.returns-in_err-task-clause-err
returns-in_err-task-clause-err g c =
    let gave : FileBytes = journal_bytes c.read-gave.result in
    let step = c.from_residual-in_err-task in
    let e = err_from_is_err_and step.result step.ensures.1 in
    let found = c.in_ok-dir.ensures.ok in
    rw (e.1, e.2) (
      gave,
      inr (
        (_, found.1),
        subst (λ d. IsJournalOf d gave (Err c.in_err-task.field-0.0)) found.0
            c.in_err-task.ensures.err,
      ),
    )

pub returns-clause-ok : goal.returns-clause-ok
returns-clause-ok g c =
    let gave : FileBytes = journal_bytes c.read-gave.result in
    let found = c.in_ok-dir.ensures.ok in
    let made = c.in_ok-task.ensures.ok in (
      gave,
      (
        rw made.0 found.1,
        subst (λ d. IsJournalOf d gave (Ok c.in_ok-task.task.journal)) found.0 made.1,
      ),
    )
