use Rattle.std.proofs.Common.{map}
use Rattle.nix_drv.specs.Parts.{bytes_of, input_of, output_of, parts_build}
use Rattle.nix_drv.specs.Derivation.{input_value, output_value}
use Rattle.nix_drv.specs.declared.derivation.Input.{Input}
use Rattle.nix_drv.specs.declared.derivation.Output.{Output}
use Rattle.nix_drv.proofs.Derivations.{with_inputs_value}
use Rattle.nix_drv.proofs.FormTexts.{parts_written, on_ok}
use Rattle.nix_drv.proofs.forms.write_parts.Goals as goal

pub returns : goal.returns
returns c =
    let p = c.args.parts.now in
    on_ok c.write_build.result _ _
    (λ h. rw (with_inputs_value p c.args.inputs.now) (parts_written c.args.out.now.items _ _ _ _
    (map (λ (o : Output). output_value (output_of o)) p.outputs.items)
    (map (λ (i : Input). input_value (input_of i)) c.args.inputs.now)
    (map bytes_of p.sources.items) (parts_build p)
    (rw c.deref.ensures.value at c.in_ok-write_list_after.ensures)
    c.in_ok-write_list_after-2.ensures
    (rw c.deref-2.ensures.value at c.in_ok-write_list_after-3.ensures) h))
    c.write_build.ensures
