use Rattle.std.proofs.Common.{◌≡◌, ◌∙◌, Some, None, ap, codes, sym}
use Rattle.std.specs.Prelude.{slice_get}
use Rattle.std.specs.Option.{option_map}
use Rattle.nix_drv.specs.Parts.{bytes_of}
use Rattle.nix_drv.specs.Strings.{string_text}
use Rattle.run_states.specs.Systems.{required_features}
use Rattle.run_report.specs.Words.{spelled_features, with_value}
use Rattle.run_report.proofs.Wordings.{added_same, found_again, none_again, with_found, with_none}
use Rattle.run_report.proofs.words.write_missing_feature.Goals as goal

pub returns-in-Some : goal.returns-in-Some
returns-in-Some c =
    let drv = c.args.drv.now in
    let at : slice_get (required_features drv) c.args.feature ≡ Some c.in-Some.found.items =
    sym c.in_ok-found.ensures ∙ ap (option_map bytes_of) c.in-Some.is in
    added_same _ _ _ _ _
    (ap (λ text. with_value (codes "MissingFeature") (string_text text)) c.deref.ensures.value
    ∙ with_found (codes "MissingFeature") (spelled_features drv) c.args.feature _
    (found_again string_text (required_features drv) c.args.feature _ at))
    c.write_with_string.ensures

pub returns-in-None : goal.returns-in-None
returns-in-None c =
    let drv = c.args.drv.now in
    let none : slice_get (required_features drv) c.args.feature ≡ None =
    sym c.in_ok-found.ensures ∙ ap (option_map bytes_of) c.in-None.is in
    added_same _ _ _ _ _
    (with_none (codes "MissingFeature") (spelled_features drv) c.args.feature
    (none_again string_text (required_features drv) c.args.feature none))
    c.write_with_number.ensures
