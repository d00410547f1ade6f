use Rattle.std.proofs.Common.{refl}
use Rattle.nix_drv.proofs.Derivations.{not_in_order}
use Rattle.nix_drv.proofs.derivation.Derivation.new.Goals as goal

pub returns-in-Err : goal.returns-in-Err
returns-in-Err c = (refl, not_in_order _ _ c.in-Err.ensures)
