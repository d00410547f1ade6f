use Rattle.std.proofs.Common.{◌∙◌, ◌<◌, List, length, refl, sym, ap, arith}
use Rattle.std.specs.List.{slice_get}
use Rattle.std.proofs.lemmas.List.{length-map}
use Rattle.std.proofs.lemmas.Option.{slice_get_read}
use Rattle.nix_drv.specs.Derivation.{Output}
use Rattle.nix_drv.specs.Parts.{output_of}
use Rattle.drv_graph.specs.private.Checking.{EntriesFit}
use Rattle.drv_graph.proofs.Checks.{env_mismatch, fit_more}
use Rattle.drv_graph.proofs.Loops.{seen_at}
use Rattle.drv_graph.proofs.outputs.values.check_env.Goals as goal

pub loop-index-preserved : goal.loop-index-preserved
loop-index-preserved c =
    let outputs = c.outputs-output-items.result.now in
    let below : c.loop-index.index < length c.args.paths.now =
    omega (arith, ap length c.outputs-output-items.ensures, length-map outputs output_of) in
    fit_more (EntriesFit _ _) _ _
    _ _ _
    (ap (λ (os : List Output). slice_get os c.loop-index.index) (sym c.outputs-output-items.ensures)
    ∙ seen_at output_of _ _ _ c.loop-index-test.true
    c.output-item.is)
    (slice_get_read _ _ _
    _ refl below c.index-paths-index.is)
    c.loop-index.invariant c.if-not-entry_fits.ensures

pub returns-then-not-entry_fits-clause-err : goal.returns-then-not-entry_fits-clause-err
returns-then-not-entry_fits-clause-err c =
    let outputs = c.outputs-output-items.result.now in
    let below : c.loop-index.index < length c.args.paths.now =
    omega (arith, ap length c.outputs-output-items.ensures, length-map outputs output_of) in
    env_mismatch _ _ _ _
    _ _ _ _
    (ap (λ (os : List Output). slice_get os c.loop-index.index) (sym c.outputs-output-items.ensures)
    ∙ seen_at output_of _ _ _ c.loop-index-test.true
    c.output-item.is)
    (slice_get_read _ _ _
    _ refl below c.index-paths-index.is)
    c.loop-index.invariant c.if-not-entry_fits.ensures c.in_ok-env_mismatch.ensures
