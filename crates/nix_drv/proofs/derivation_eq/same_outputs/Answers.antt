use Rattle.std.proofs.Common.{rules}
use Rattle.nix_drv.proofs.EqualDerivations.{seen_alike}
use Rattle.nix_drv.proofs.derivation_eq.same_outputs.Goals as goal

pub returns : goal.returns
returns c = search (rules, seen_alike)
