use Rattle.nix_names.proofs.PathFaults.{path_of_no_fault, no_fault_of_path}
use Rattle.nix_names.proofs.path_laws.only_paths_are_accepted.Goals as goal

pub returns : goal.returns
returns _ = (λ dir text. (path_of_no_fault dir text, no_fault_of_path dir text))
