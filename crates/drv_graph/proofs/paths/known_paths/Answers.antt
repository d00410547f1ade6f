use Rattle.std.proofs.Common.{sym, subst}
use Rattle.nix_names.specs.StorePaths.{IsPathOf}
use Rattle.drv_graph.proofs.InStore.{item_is}
use Rattle.drv_graph.proofs.paths.known_paths.Goals as goal

pub known_path-requires : goal.known_path-requires
known_path-requires g c =
    subst (IsPathOf _) (sym c.path_text.ensures)
    (item_is (IsPathOf _) g.T.NamesPath.path_text _ _ _ c.loop-value-test.true c.value-item.is
    c.requires)
