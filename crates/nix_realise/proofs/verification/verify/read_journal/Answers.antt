use Rattle.std.proofs.Common.{Err, ℕ, List, map, subst}
use Rattle.std.specs.Borrow.{Bor}
use Rattle.std.proofs.lemmas.Result.{err_from_is_err_and}
use Rattle.nix_realise.specs.Files.{FileBytes, journal_bytes}
use Rattle.nix_realise.specs.Tasks.{ArePathsOf}
use Rattle.nix_realise.specs.declared.io.files.FileFault.TheVariants.{Unreadable}
use Rattle.nix_realise.proofs.VerifyEndings.{folder_refused, journal_refused, journal_taken}
use Rattle.nix_realise.proofs.VerifyEndings.{memory_refused, word_refused}
use Rattle.nix_realise.proofs.verification.verify.read_journal.Goals as goal

pub returns-in_err-dir : goal.returns-in_err-dir
returns-in_err-dir g c =
    let none : FileBytes = Err Unreadable in
    let e = err_from_is_err_and c.from_residual.result c.from_residual.ensures.1 in
    rw (e.1, e.2) (record {
      ok = tt;
      err = (
        none,
        folder_refused c.args.request.now none c.in_err-dir.field-0.0 c.in_err-dir.ensures,
      );
    })

pub returns-in_err-named : goal.returns-in_err-named
returns-in_err-named g c =
    let none : FileBytes = Err Unreadable in
    let step = c.from_residual-in_err-named in
    let e = err_from_is_err_and step.result step.ensures.1 in
    let dir = c.in_ok-dir.ensures in
    let refused = subst (λ (words : List (Bor (List ℕ))). ArePathsOf c.in_ok-dir.dir
    (map (λ w. w.now) words) (Err c.in_err-named.field-0.0)) c.deref.ensures.value
    c.in_err-named.ensures in
    rw (e.1, e.2) (record {
      ok = tt;
      err = (
        none,
        word_refused c.args.request.now c.in_ok-dir.dir dir.0 dir.1 none
            c.in_err-named.field-0.0 refused,
      );
    })

pub returns-in_err-file : goal.returns-in_err-file
returns-in_err-file g c =
    let none : FileBytes = Err Unreadable in
    let step = c.from_residual-in_err-file in
    let e = err_from_is_err_and step.result step.ensures.1 in
    let dir = c.in_ok-dir.ensures in
    rw (e.1, e.2) (record {
      ok = tt;
      err = (none, memory_refused c.args.request.now c.in_ok-dir.dir dir.0 dir.1 none);
    })

pub returns-in_err-journal : goal.returns-in_err-journal
returns-in_err-journal g c =
    let gave : FileBytes = journal_bytes c.read.result in
    let step = c.from_residual-in_err-journal in
    let e = err_from_is_err_and step.result step.ensures.1 in
    let dir = c.in_ok-dir.ensures in
    let named = rw c.deref.ensures.value at c.in_ok-named.ensures in
    rw (e.1, e.2) (record {
      ok = tt;
      err = (
        gave,
        journal_refused c.args.request.now c.in_ok-dir.dir dir.0 dir.1 gave
            c.in_err-journal.field-0.0 named.1 c.in_err-journal.ensures,
      );
    })

pub returns-clause-ok : goal.returns-clause-ok
returns-clause-ok g c =
    let gave : FileBytes = journal_bytes c.read.result in
    let dir = c.in_ok-dir.ensures in
    let named = rw c.deref.ensures.value at c.in_ok-named.ensures in
    let taken = journal_taken c.args.request.now c.in_ok-dir.dir dir.0 dir.1 gave
    c.in_ok-journal.journal named.1 c.in_ok-journal.ensures in
    (gave, (named.0, taken.0, taken.1))
