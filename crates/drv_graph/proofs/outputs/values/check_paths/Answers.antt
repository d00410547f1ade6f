use Rattle.std.proofs.Common.{◌<◌, ℕ, List, length, refl, subst, arith, rules}
use Rattle.std.proofs.lemmas.Option.{slice_get_read}
use Rattle.nix_drv.specs.Parts.{output_of}
use Rattle.drv_graph.specs.private.Checking.{FitsExpected}
use Rattle.drv_graph.proofs.Checks.{fit_more, mismatch}
use Rattle.drv_graph.proofs.Loops.{seen_at}
use Rattle.drv_graph.proofs.outputs.values.check_paths.Goals as goal

pub loop-index-preserved : goal.loop-index-preserved
loop-index-preserved c = search (rules, fit_more, seen_at, slice_get_read)

pub returns-then-not-fits-clause-err : goal.returns-then-not-fits-clause-err
returns-then-not-fits-clause-err c =
    let below : c.loop-index.index < length c.args.paths.now = omega arith in
    mismatch _ _ _ _
    _ _ _
    (seen_at output_of _ _ _
    c.loop-index-test.true c.index-outputs-index.is)
    (slice_get_read _ _ _
    _ refl below c.index-paths-index.is)
    c.loop-index.invariant
    (subst (λ (v : List ℕ). FitsExpected c.args.in_draft v c.index-paths-index.result → ⊥)
    c.deref.ensures.value c.if-not-fits.ensures)
    c.in_ok-output_mismatch.ensures
