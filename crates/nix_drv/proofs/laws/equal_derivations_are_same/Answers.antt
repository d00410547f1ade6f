use Rattle.nix_drv.proofs.EqualDerivations as equal
use Rattle.nix_drv.proofs.laws.equal_derivations_are_same.Goals as goal

pub returns : goal.returns
returns c = equal.equal_derivations_are_same
