use Rattle.nix_drv.specs.Grammar.{Str, Then}
use Rattle.nix_drv.specs.Derivation.{comma, output_form, input_form, build_form}
use Rattle.nix_drv.proofs.FormReadings.{inputs_form, sources_form, list_fails, list_later, list_read}
use Rattle.nix_drv.proofs.Stopping.{gives_stop}
use Rattle.nix_drv.proofs.forms.read_parts.Goals as goal

pub returns-in_err-outputs : goal.returns-in_err-outputs
returns-in_err-outputs c = gives_stop _ _ _ _ c.from_residual.ensures.1
    (list_fails _ _ _ output_form inputs_form _ c.in_err-outputs.ensures)

pub returns-in_err-inputs : goal.returns-in_err-inputs
returns-in_err-inputs c = gives_stop _ _ _ _ c.from_residual-in_err-inputs.ensures.1
    (list_later _ _ _ output_form inputs_form _ _ _ c.in_ok-outputs.ensures
    (list_fails _ _ _ input_form sources_form _ c.in_err-inputs.ensures))

pub returns-in_err-sources : goal.returns-in_err-sources
returns-in_err-sources c = gives_stop _ _ _ _ c.from_residual-in_err-sources.ensures.1
    (list_later _ _ _ output_form inputs_form _ _ _ c.in_ok-outputs.ensures
    (list_later _ _ _ input_form sources_form _ _ _ c.in_ok-inputs.ensures
    (list_fails _ _ _ Str (Then comma build_form) _ c.in_err-sources.ensures)))

pub returns-in_err-build : goal.returns-in_err-build
returns-in_err-build c = gives_stop _ _ _ _ c.from_residual-in_err-build.ensures.1
    (list_later _ _ _ output_form inputs_form _ _ _ c.in_ok-outputs.ensures
    (list_later _ _ _ input_form sources_form _ _ _ c.in_ok-inputs.ensures
    (list_later _ _ _ Str (Then comma build_form) _ _ _ c.in_ok-sources.ensures
    c.in_err-build.ensures)))

pub returns : goal.returns
returns c = list_read _ _ output_form inputs_form _ _ _ _ _ c.in_ok-outputs.ensures
    (list_read _ _ input_form sources_form _ _ _ _ _ c.in_ok-inputs.ensures
    (list_read _ _ Str (Then comma build_form) _ _ _ _ _ c.in_ok-sources.ensures
    c.in_ok-build.ensures))
