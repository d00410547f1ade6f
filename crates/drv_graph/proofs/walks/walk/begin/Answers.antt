use Rattle.std.proofs.Common.{refl, subst, sym}
use Rattle.std.specs.Prelude.{All}
use Rattle.nix_names.specs.StorePaths.{IsPathOf}
use Rattle.drv_graph.proofs.Leaving.{inputs_are}
use Rattle.drv_graph.proofs.walks.walk.begin.Goals as goal

pub known_paths-requires : goal.known_paths-requires
known_paths-requires c =
    subst (All (IsPathOf _)) (sym (inputs_are _ c.args.drv _ c.inputs.ensures refl)) c.requires

pub returns-clause-inputs : goal.returns-clause-inputs
returns-clause-inputs c = inputs_are _ c.args.drv _
    c.inputs.ensures c.in_ok-inputs.ensures.ok
