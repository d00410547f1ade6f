use Rattle.std.proofs.Common.{◌∙◌, ◌<◌, ℕ, List, Some, length, sym, ap, subst, arith}
use Rattle.std.specs.Bool.{MatchBool}
use Rattle.std.specs.List.{slice_get}
use Rattle.std.proofs.lemmas.List.{length-map}
use Rattle.std.proofs.lemmas.Option.{slice_get_within}
use Rattle.nix_drv.specs.Derivation.{EnvEntry}
use Rattle.nix_drv.specs.Parts.{entry_of}
use Rattle.nix_drv.specs.Indices.{env_keys}
use Rattle.drv_graph.specs.private.Checking.{FitsExpected}
use Rattle.drv_graph.proofs.Checks.{entry_answer, no_misfit}
use Rattle.drv_graph.proofs.Loops.{seen_at}
use Rattle.drv_graph.proofs.outputs.values.entry_fits.Goals as goal

pub returns-in-Some : goal.returns-in-Some
returns-in-Some c =
    let within = slice_get_within (env_keys c.args.drv.now) c.in-Some.index
    c.as_slice-name.result.now c.in-Some.ensures.found in
    let below : c.in-Some.index < length c.env-env.result.now =
    omega (
      arith,
      within,
      length-map c.args.drv.now.env (λ (e : EnvEntry). e.key),
      ap length c.env-env.ensures,
      length-map c.env-env.result.now entry_of,
    ) in
    entry_answer _ _ _ _
    _ _ _ c.in-Some.ensures.rising
    (c.in-Some.ensures.found ∙ ap (λ (n : List ℕ). Some n) c.as_slice-name.ensures.value)
    (ap (λ (es : List EnvEntry). slice_get es c.in-Some.index) (sym c.env-env.ensures)
    ∙ seen_at entry_of _ _ _ below
    c.index-env-index.is)
    (subst (λ (v : List ℕ). MatchBool c.fits.result (FitsExpected c.args.in_draft v c.args.path.now)
    (FitsExpected c.args.in_draft v c.args.path.now → ⊥)) c.deref.ensures.value c.fits.ensures)

pub returns-in-None : goal.returns-in-None
returns-in-None c =
    no_misfit _ _ _
    _ _ c.in-None.ensures.found
    c.as_slice-name.ensures.value
