use Rattle.std.proofs.Common.{subst}
use Rattle.nix_drv.specs.Order.{InOrder}
use Rattle.nix_drv.specs.Derivation.{Drv, derivation_form, drv_value}
use Rattle.nix_drv.proofs.derivation.Derivation.into_parts.Goals as goal

pub returns-clause-in_order : goal.returns-clause-in_order
returns-clause-in_order c = let P : Drv → Type 0 = λ d. InOrder derivation_form (drv_value d)
    in subst P c.self.view_is c.self.invariant
