-- Derivations of a plan that share an output path are twins.
use Rattle.std.proofs.Common.{◌≡◌, ◌∙◌, ℕ, true, List, Some, sym, subst}
use Rattle.std.specs.Prelude.{Contains, slice_get}
use Rattle.nix_names.proofs.Lists.{Contains-from_get, Contains-from_map}
use Rattle.nix_drv.specs.Derivation.{Output}
use Rattle.drv_graph.specs.Nodes.{Node}
use Rattle.drv_graph.specs.PlanNodes.{output_paths_of}
use Rattle.drv_graph.specs.Plans.{Graph}
use Rattle.drv_graph.specs.SoundGraphs.{IsSound}
use Rattle.drv_graph.specs.Twins.{are_twins_at}
use Rattle.drv_graph.proofs.FirstTwins.{twins_are_told}
use Rattle.drv_graph.proofs.Twins.{sharers_are_twins}

pub sharers : (graph : Graph) → IsSound graph → (a b : ℕ) (x y : Node) (path : List ℕ)
    → slice_get graph.nodes a ≡ Some x → slice_get graph.nodes b ≡ Some y
    → Contains (output_paths_of x.drv) path → Contains (output_paths_of y.drv) path
    → are_twins_at (slice_get graph.nodes a) (slice_get graph.nodes b) ≡ true
sharers graph sound a b x y path at at' own own' =
    let path_in : Output → List ℕ = λ o. o.path in
    let one = Contains-from_map path_in _ _ own in
    let two = Contains-from_map path_in _ _ own' in
    let twins = sharers_are_twins graph x y sound (Contains-from_get _ a x at)
    (Contains-from_get _ b y at')
    (one.0, two.0, one.1, two.1, one.2 ∙ sym two.2) in
    subst (λ o. are_twins_at o (slice_get graph.nodes b) ≡ true) (sym at)
    (subst (λ o. are_twins_at (Some x) o ≡ true) (sym at')
    ((twins_are_told x.drv y.drv).1 twins))
