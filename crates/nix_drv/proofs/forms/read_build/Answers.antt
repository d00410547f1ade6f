use Rattle.std.specs.Prelude.{codes}
use Rattle.nix_drv.specs.Grammar.{Str}
use Rattle.nix_drv.specs.Derivation.{entry_form}
use Rattle.nix_drv.proofs.FormReadings.{args_form, close_form, env_form, fixed_fails, fixed_read, list_fails, list_later, list_read, strings_fails, strings_later, strings_read}
use Rattle.nix_drv.proofs.Stopping.{gives_stop}
use Rattle.nix_drv.proofs.forms.read_build.Goals as goal

pub returns-in_err-system : goal.returns-in_err-system
returns-in_err-system c = gives_stop _ _ _ _ c.from_residual.ensures.1
    (strings_fails _ _ args_form _ c.in_err-system.ensures)

pub returns-in_err-args : goal.returns-in_err-args
returns-in_err-args c = gives_stop _ _ _ _ c.from_residual-in_err-args.ensures.1
    (strings_later _ _ args_form _ _ _ _ c.in_ok-system.ensures
    (list_fails _ _ _ Str env_form _ c.in_err-args.ensures))

pub returns-in_err-env : goal.returns-in_err-env
returns-in_err-env c = gives_stop _ _ _ _ c.from_residual-in_err-env.ensures.1
    (strings_later _ _ args_form _ _ _ _ c.in_ok-system.ensures
    (list_later _ _ _ Str env_form _ _ _ c.in_ok-args.ensures
    (list_fails _ _ _ entry_form close_form _ c.in_err-env.ensures)))

pub returns-in_err-rest : goal.returns-in_err-rest
returns-in_err-rest c = gives_stop _ _ _ _ c.from_residual-in_err-rest.ensures.1
    (strings_later _ _ args_form _ _ _ _ c.in_ok-system.ensures
    (list_later _ _ _ Str env_form _ _ _ c.in_ok-args.ensures
    (list_later _ _ _ entry_form close_form _ _ _ c.in_ok-env.ensures
    (fixed_fails _ (codes ")") _ c.in_err-rest.ensures))))

pub returns : goal.returns
returns c = strings_read _ args_form _ _ _ _ _ _ c.in_ok-system.ensures
    (list_read _ _ Str env_form _ _ _ _ _ c.in_ok-args.ensures
    (list_read _ _ entry_form close_form _ _ _ _ _ c.in_ok-env.ensures
    (fixed_read (codes ")") _ _ c.in_ok-rest.ensures)))
