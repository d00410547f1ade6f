use Rattle.nix_names.proofs.PathDigests.{store_path_is_path}
use Rattle.nix_names.proofs.path_laws.made_paths_are_paths.Goals as goal

pub returns : goal.returns
returns _ = store_path_is_path
