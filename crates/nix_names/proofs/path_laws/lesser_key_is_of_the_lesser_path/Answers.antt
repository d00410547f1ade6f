use Rattle.nix_names.proofs.Keys.{lesser_path}
use Rattle.nix_names.proofs.path_laws.lesser_key_is_of_the_lesser_path.Goals as goal

pub returns : goal.returns
returns _ = lesser_path
