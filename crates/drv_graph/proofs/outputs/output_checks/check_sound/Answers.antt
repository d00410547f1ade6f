use Rattle.std.proofs.Common.{◌∙◌, map, sym, ap, rules}
use Rattle.std.proofs.lemmas.Simd.{map-map}
use Rattle.nix_drv.specs.Derivation.{Input}
use Rattle.nix_drv.specs.Parts.{input_of}
use Rattle.drv_graph.proofs.Checks.{all_sound, kind_is_sound, name_is_sound, use_is_sound}
use Rattle.drv_graph.proofs.Ends.{err_is}
use Rattle.drv_graph.proofs.outputs.output_checks.check_sound.Goals as goal

pub returns-in_err-kind : goal.returns-in_err-kind
returns-in_err-kind c = search (rules, err_is, kind_is_sound)

pub returns-in_err-check_names : goal.returns-in_err-check_names
returns-in_err-check_names c = search (rules, err_is, name_is_sound)

pub check_uses-requires : goal.check_uses-requires
check_uses-requires c =
    c.requires ∙ ap (map (λ (i : Input). i.path)) (sym c.inputs.ensures)
    ∙ map-map (λ (i : Input). i.path) input_of _

pub returns-in_err-check_uses : goal.returns-in_err-check_uses
returns-in_err-check_uses c = search (rules, err_is, use_is_sound)

pub returns : goal.returns
returns c = all_sound _ _ _
    _
    _ _ c.in_ok-kind.ensures.ok.0 c.in_ok-kind.ensures.ok.1
    c.outputs.ensures c.in_ok-check_names.ensures.ok c.inputs.ensures c.in_ok-check_uses.ensures.ok
