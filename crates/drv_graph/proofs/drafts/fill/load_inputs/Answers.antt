use Rattle.std.proofs.Common.{List, ℕ, map, refl, subst, sym}
use Rattle.std.specs.Prelude.{All}
use Rattle.nix_names.specs.StorePaths.{IsPathOf}
use Rattle.nix_drv.specs.Parts.{path_of}
use Rattle.drv_graph.specs.Loading.{IsLoading}
use Rattle.drv_graph.proofs.InsertedPaths.{inputs_rise}
use Rattle.drv_graph.proofs.FillAnswers.{numbers_loaded, same_inputs}
use Rattle.drv_graph.proofs.drafts.fill.load_inputs.Goals as goal

pub known_paths-requires : goal.known_paths-requires
known_paths-requires g c =
    let paths = map path_of _ in
    subst (All (IsPathOf _))
    (sym (same_inputs c.parts.result.now _ _ _ paths
    c.parts.ensures.parts c.deref.ensures.value refl refl)) c.requires

pub returns-clause-loading : goal.returns-clause-loading
returns-clause-loading g c =
    let same = same_inputs c.parts.result.now _ _
    _ _ c.parts.ensures.parts c.deref.ensures.value
    c.in_ok-inputs.ensures.ok c.deref-2.ensures.value in
    subst (λ (roots : List (List ℕ)). IsLoading c.args.profile c.args.dir.now
    (g.S.DrvSource.gives c.args.source.now) roots c.load_as.result) same c.load_as.ensures.loading

pub returns-clause-numbers : goal.returns-clause-numbers
returns-clause-numbers g c =
    let same = same_inputs c.parts.result.now _ _
    _ _ c.parts.ensures.parts c.deref.ensures.value
    c.in_ok-inputs.ensures.ok c.deref-2.ensures.value in
    numbers_loaded _ _ (g.S.DrvSource.gives c.args.source.now)
    _ _
    (inputs_rise _ c.parts.ensures.in_order)
    (subst (λ (roots : List (List ℕ)). IsLoading c.args.profile c.args.dir.now
    (g.S.DrvSource.gives c.args.source.now) roots c.load_as.result) same c.load_as.ensures.loading)
