use Rattle.std.proofs.Common.{◌∙◌, ap}
use Rattle.nix_drv.specs.Derivation.{Output}
use Rattle.nix_drv.specs.Parts.{output_of}
use Rattle.nix_drv.specs.Strings.{string_text}
use Rattle.run_report.specs.Words.{spelled_names}
use Rattle.run_report.proofs.Wordings.{added_same, found_again, found_mapped, none_again, none_mapped, number_left, text_found}
use Rattle.run_report.proofs.words.write_output.Goals as goal

pub returns-in-Some : goal.returns-in-Some
returns-in-Some c =
    let drv = c.args.drv.now in
    let at = found_mapped output_of _ _ _
    _ c.in-Some.ensures.lookup.3.0 c.in-Some.ensures.lookup.1
    c.outputs.ensures in
    added_same _ _ _ _ _
    (ap string_text c.deref.ensures.value
    ∙ text_found (spelled_names drv) c.args.output _
    (found_again (λ (o : Output). string_text o.name) drv.outputs c.args.output _ at))
    c.write_string.ensures

pub returns-in-None : goal.returns-in-None
returns-in-None c =
    let drv = c.args.drv.now in
    let none = none_mapped output_of _ _ _
    c.in-None.ensures.lookup.3 c.outputs.ensures in
    added_same c.write_number.result _ _ _ _
    (number_left (spelled_names drv) c.args.output
    (none_again (λ (o : Output). string_text o.name) drv.outputs c.args.output none))
    c.write_number.ensures
