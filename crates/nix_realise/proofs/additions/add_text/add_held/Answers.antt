use Rattle.std.proofs.Common.{ℕ, List, Option, Err, Ok, subst}
use Rattle.std.proofs.lemmas.Result.{err_from_is_err_and}
use Rattle.nix_realise.proofs.Endings.{journal_refused, put_ends, text_accepted}
use Rattle.nix_realise.specs.AddedText.{IsAdding}
use Rattle.nix_realise.specs.Files.{FileBytes, journal_bytes}
use Rattle.nix_realise.specs.declared.io.files.FileFault.TheVariants.{Unreadable}
use Rattle.nix_realise.proofs.additions.add_text.add_held.Goals as goal

pub returns-in_err-file : goal.returns-in_err-file
returns-in_err-file g c gave named =
    let none : FileBytes = Err Unreadable in
    let step = c.from_residual in
    let e = err_from_is_err_and step.result step.ensures.1 in
    (none, rw (e.1, e.2) (λ no. no named.0.0.0))

pub returns-in_err-added : goal.returns-in_err-added
returns-in_err-added g c gave named =
    let journal : FileBytes = journal_bytes c.read.result in
    let before : Option (List ℕ) = g.O.Write.contents c.args.out.now in
    let step = c.from_residual-in_err-added in
    let e = err_from_is_err_and step.result step.ensures.1 in
    let refused =
    subst (λ d. IsAdding d c.args.named journal (Err c.in_err-added.field-0.0)) c.requires.dir
    c.in_err-added.ensures in
    let ends =
    journal_refused c.args.request.now gave journal before c.args.named
    c.in_err-added.field-0.0 named refused in
    (journal, rw (e.1, e.2) ends)

pub returns : goal.returns
returns g c gave named =
    let journal : FileBytes = journal_bytes c.read.result in
    let before : Option (List ℕ) = g.O.Write.contents c.args.out.now in
    let after : Option (List ℕ) = g.O.Write.contents c.put.new.out in
    let adding =
    subst (λ d. IsAdding d c.args.named journal (Ok c.in_ok-added.added)) c.requires.dir
    c.in_ok-added.ensures in
    let accepted =
    text_accepted c.args.request.now gave journal c.args.named c.in_ok-added.added named adding in
    let ends =
    put_ends c.args.request.now gave journal before after c.in_ok-added.added c.put.result accepted
    c.put.ensures in
    (journal, ends)
