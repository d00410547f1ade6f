use Rattle.nix_names.proofs.PathTexts.{hash_part_of_path, name_of_path}
use Rattle.nix_names.proofs.path_laws.parts_are_found.Goals as goal

pub returns : goal.returns
returns _ = (λ dir hash name is_hash named. (
  hash_part_of_path dir hash name is_hash named,
  name_of_path dir hash name is_hash named,
))
