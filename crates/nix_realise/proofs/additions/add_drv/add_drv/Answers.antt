use Rattle.std.proofs.Common.{inl, inr, refl, Err}
use Rattle.std.proofs.lemmas.Result.{err_from_is_err_and}
use Rattle.nix_realise.proofs.Endings.{not_put}
use Rattle.nix_realise.specs.Files.{FileBytes, needed_bytes}
use Rattle.nix_realise.specs.declared.io.files.FileFault.TheVariants.{Unreadable}
use Rattle.nix_realise.proofs.additions.add_drv.add_drv.Goals as goal

pub returns-in_err-store_dir : goal.returns-in_err-store_dir
returns-in_err-store_dir g c =
    let none : FileBytes = Err Unreadable in
    let step = c.from_residual in
    let e = err_from_is_err_and step.result step.ensures.1 in
    (none, rw (e.1, e.2) (inl (refl, inl c.in_err-store_dir.ensures)))

pub returns-in_err-added : goal.returns-in_err-added
returns-in_err-added g c =
    let gave : FileBytes = needed_bytes c.read_text-draft.result in
    let step = c.from_residual-in_err-added in
    let e = err_from_is_err_and step.result step.ensures.1 in
    (gave, rw (e.1, e.2) (inl (refl, c.in_err-added.ensures)))

pub returns : goal.returns
returns g c =
    let gave : FileBytes = needed_bytes c.read_text-draft.result in (
      gave,
      inr (
        c.in_ok-added.added,
        c.in_ok-added.ensures,
        not_put _ _ _ c.in-Err.unput _ c.in-Err.ensures.err c.stop_of.ensures,
      ),
    )

pub returns-in-Ok : goal.returns-in-Ok
returns-in-Ok g c = (
  needed_bytes c.read_text-draft.result,
  (c.of_drv.ensures, (c.in_ok-added.added, c.in_ok-added.ensures, c.in-Ok.ensures.printed)),
)
