use Rattle.nix_names.proofs.Keys.{lesser_hash_part}
use Rattle.nix_names.proofs.path_laws.lesser_key_is_of_the_lesser_hash_part.Goals as goal

pub returns : goal.returns
returns _ = lesser_hash_part
