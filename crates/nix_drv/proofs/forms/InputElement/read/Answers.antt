use Rattle.std.specs.Prelude.{codes}
use Rattle.nix_drv.specs.Grammar.{Str}
use Rattle.nix_drv.proofs.FormReadings.{close_form, names_form, fixed_fails, fixed_read, list_fails, list_later, list_read, string_fails, string_later, string_read}
use Rattle.nix_drv.proofs.Stopping.{gives_stop}
use Rattle.nix_drv.proofs.forms.InputElement.read.Goals as goal

pub returns-in_err-path : goal.returns-in_err-path
returns-in_err-path c = gives_stop _ _ _ _ c.from_residual.ensures.1
    (string_fails _ _ names_form _ c.in_err-path.ensures)

pub returns-in_err-names : goal.returns-in_err-names
returns-in_err-names c = gives_stop _ _ _ _ c.from_residual-in_err-names.ensures.1
    (string_later _ _ names_form _ _ _ c.in_ok-path.ensures
    (list_fails _ _ _ Str close_form _ c.in_err-names.ensures))

pub returns-in_err-rest : goal.returns-in_err-rest
returns-in_err-rest c = gives_stop _ _ _ _ c.from_residual-in_err-rest.ensures.1
    (string_later _ _ names_form _ _ _ c.in_ok-path.ensures
    (list_later _ _ _ Str close_form _ _ _ c.in_ok-names.ensures
    (fixed_fails _ (codes ")") _ c.in_err-rest.ensures)))

pub returns : goal.returns
returns c = string_read _ names_form _ _ _ _ _ c.in_ok-path.ensures
    (list_read _ _ Str close_form _ _ _ _ _ c.in_ok-names.ensures
    (fixed_read (codes ")") _ _ c.in_ok-rest.ensures))
