use Rattle.std.proofs.Common.{ℕ, List, Option, Err}
use Rattle.std.proofs.lemmas.Result.{err_from_is_err_and}
use Rattle.nix_realise.proofs.Endings.{folder_refused, not_held, text_refused}
use Rattle.nix_realise.specs.Files.{FileBytes, needed_bytes}
use Rattle.nix_realise.specs.declared.io.files.FileFault.TheVariants.{Unreadable}
use Rattle.nix_realise.proofs.additions.add_text.add_text.Goals as goal

pub returns-in_err-dir : goal.returns-in_err-dir
returns-in_err-dir g c =
    let none : FileBytes = Err Unreadable in
    let before : Option (List ℕ) = g.O.Write.contents c.args.out.now in
    let step = c.from_residual in
    let e = err_from_is_err_and step.result step.ensures.1 in
    let ends =
    folder_refused c.args.request.now none none before c.in_err-dir.field-0.0
    c.in_err-dir.ensures in
    (none, none, rw (e.1, e.2) ends)

pub returns-in_err-named : goal.returns-in_err-named
returns-in_err-named g c =
    let none : FileBytes = Err Unreadable in
    let gave : FileBytes = needed_bytes c.read_text-text.result in
    let before : Option (List ℕ) = g.O.Write.contents c.args.out.now in
    let step = c.from_residual-in_err-named in
    let e = err_from_is_err_and step.result step.ensures.1 in
    let ends =
    text_refused c.args.request.now gave none before c.in_err-named.field-0.0
    c.in_ok-dir.ensures.1 c.in_err-named.ensures in
    (gave, none, rw (e.1, e.2) ends)

pub returns-in_err-held : goal.returns-in_err-held
returns-in_err-held g c =
    let none : FileBytes = Err Unreadable in
    let gave : FileBytes = needed_bytes c.read_text-text.result in
    let before : Option (List ℕ) = g.O.Write.contents c.args.out.now in
    let step = c.from_residual-in_err-held in
    let e = err_from_is_err_and step.result step.ensures.1 in
    let ends =
    not_held c.args.request.now gave none before _ c.in_err-held.field-0.0
    c.in_ok-named.ensures.0 c.in_err-held.ensures.err in
    (gave, none, rw (e.1, e.2) ends)

pub returns : goal.returns
returns g c =
    let gave : FileBytes = needed_bytes c.read_text-text.result in
    let ends = c.add_held.ensures gave c.in_ok-named.ensures in
    (gave, ends.0, ends.1)
