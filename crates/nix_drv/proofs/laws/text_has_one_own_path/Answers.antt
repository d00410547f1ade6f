use Rattle.nix_drv.proofs.OwnPathLaws.{one_own_path}
use Rattle.nix_drv.proofs.laws.text_has_one_own_path.Goals as goal

pub returns : goal.returns
returns c = one_own_path
