use Rattle.std.proofs.Common.{◌∙◌, codes, ap}
use Rattle.nix_drv.specs.Parts.{bytes_of}
use Rattle.run_report.specs.Words.{with_value}
use Rattle.run_report.proofs.Wordings.{added_same, found_mapped, none_mapped, with_found, with_none}
use Rattle.run_report.proofs.words.write_missing_source.Goals as goal

pub returns-in-Some : goal.returns-in-Some
returns-in-Some c =
    let drv = c.args.drv.now in
    let at = found_mapped bytes_of _ _ _ _
    c.in-Some.ensures.lookup.3.0 c.in-Some.ensures.lookup.1 c.sources.ensures in
    added_same _ _ _ _ _
    (ap (with_value (codes "MissingSource")) c.deref.ensures.value
    ∙ with_found (codes "MissingSource") drv.sources c.args.source _ at)
    c.write_with_value.ensures

pub returns-in-None : goal.returns-in-None
returns-in-None c =
    let drv = c.args.drv.now in
    added_same _ _ _ _ _
    (with_none (codes "MissingSource") _ c.args.source
    (none_mapped bytes_of c.sources.result.now drv.sources c.args.source
    c.in-None.ensures.lookup.3 c.sources.ensures))
    c.write_with_number.ensures
