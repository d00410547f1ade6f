use Rattle.std.specs.Prelude.{codes}
use Rattle.nix_drv.proofs.FormReadings.{close_form, fixed_fails, fixed_read, strings_fails, strings_later, strings_read}
use Rattle.nix_drv.proofs.Stopping.{gives_stop}
use Rattle.nix_drv.proofs.forms.EnvEntryElement.read.Goals as goal

pub returns-in_err-key : goal.returns-in_err-key
returns-in_err-key c = gives_stop _ _ _ _ c.from_residual.ensures.1
    (strings_fails _ _ close_form _ c.in_err-key.ensures)

pub returns-in_err-rest : goal.returns-in_err-rest
returns-in_err-rest c = gives_stop _ _ _ _ c.from_residual-in_err-rest.ensures.1
    (strings_later _ _ close_form _ _ _ _ c.in_ok-key.ensures
    (fixed_fails _ (codes ")") _ c.in_err-rest.ensures))

pub returns : goal.returns
returns c = strings_read _ close_form _ _ _ _ _ _ c.in_ok-key.ensures
    (fixed_read (codes ")") _ _ c.in_ok-rest.ensures)
