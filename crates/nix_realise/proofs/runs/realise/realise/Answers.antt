use Rattle.std.proofs.Common.{◌∙◌, ap, inl, inr, refl, subst, Err, Ok}
use Rattle.std.proofs.lemmas.Result.{err_from_is_err_and}
use Rattle.nix_realise.specs.AddedText.{IsJournalOf}
use Rattle.nix_realise.specs.Files.{FileBytes, journal_bytes}
use Rattle.nix_realise.specs.declared.io.files.FileFault.TheVariants.{Unreadable}
use Rattle.nix_realise.specs.declared.cli.run_error.RunError.TheVariants.{NoMemory}
use Rattle.nix_realise.proofs.runs.realise.realise.Goals as goal

pub returns-in_err-tools : goal.returns-in_err-tools
returns-in_err-tools g c =
    let step = c.from_residual in
    let e = err_from_is_err_and step.result step.ensures.1 in
    inl (c.in_err-tools.field-0.0, e.1 ∙ ap Err e.2, refl, c.in_err-tools.ensures.err)

pub returns-in_err-dir : goal.returns-in_err-dir
returns-in_err-dir g c =
    let step = c.from_residual-in_err-dir in
    let e = err_from_is_err_and step.result step.ensures.1 in
    inr (inl (c.in_err-dir.field-0.0, e.1 ∙ ap Err e.2, refl, c.in_err-dir.ensures.err))

pub returns-in_err-held : goal.returns-in_err-held
returns-in_err-held g c =
    let step = c.from_residual-in_err-held in
    let e = err_from_is_err_and step.result step.ensures.1 in
    inr
    (inr (
      _,
      c.in_ok-dir.ensures.ok.1,
      inl (c.in_err-held.field-0.0, e.1 ∙ ap Err e.2, refl, c.in_err-held.ensures.err),
    ))

pub returns-in_err-file : goal.returns-in_err-file
returns-in_err-file g c =
    let none : FileBytes = Err Unreadable in
    let step = c.from_residual-in_err-file in
    let e = err_from_is_err_and step.result step.ensures.1 in
    inr
    (inr (
      _,
      c.in_ok-dir.ensures.ok.1,
      inr (none, inl (NoMemory, e.1 ∙ ap Err e.2, refl, tt)),
    ))

pub returns-in_err-task : goal.returns-in_err-task
returns-in_err-task g c =
    let gave : FileBytes = journal_bytes c.read.result in
    let step = c.from_residual-in_err-task in
    let e = err_from_is_err_and step.result step.ensures.1 in
    let refused =
    subst (λ d. IsJournalOf d gave (Err c.in_err-task.field-0.0)) c.in_ok-dir.ensures.ok.0
    c.in_err-task.ensures.err in
    inr
    (inr (
      _,
      c.in_ok-dir.ensures.ok.1,
      inr (gave, inl (c.in_err-task.field-0.0, e.1 ∙ ap Err e.2, refl, refused)),
    ))

pub returns-in_err-run : goal.returns-in_err-run
returns-in_err-run g c =
    let gave : FileBytes = journal_bytes c.read.result in
    let step = c.from_residual-in_err-run in
    let e = err_from_is_err_and step.result step.ensures.1 in
    let made = c.in_ok-task.ensures.ok in
    let journal =
    subst (λ d. IsJournalOf d gave (Ok c.in_ok-task.task.journal)) c.in_ok-dir.ensures.ok.0 made.1
    in
    inr
    (inr (
      _,
      c.in_ok-dir.ensures.ok.1,
      inr (
        gave,
        inr (
          c.in_ok-task.task,
          made.0,
          journal,
          inr (c.in_err-run.field-0.0, e.1 ∙ ap Err e.2, refl, c.in_err-run.ensures.err),
        ),
      ),
    ))

pub returns : goal.returns
returns g c =
    let gave : FileBytes = journal_bytes c.read.result in
    let made = c.in_ok-task.ensures.ok in
    let journal =
    subst (λ d. IsJournalOf d gave (Ok c.in_ok-task.task.journal)) c.in_ok-dir.ensures.ok.0 made.1
    in
    inr
    (inr (
      _,
      c.in_ok-dir.ensures.ok.1,
      inr (
        gave,
        inr (
          c.in_ok-task.task,
          made.0,
          journal,
          rw (← c.in_ok-run.ensures.request, ← c.in_ok-run.ensures.task) c.start.ensures,
        ),
      ),
    ))
