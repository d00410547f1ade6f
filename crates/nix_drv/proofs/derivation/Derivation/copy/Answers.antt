use Rattle.std.proofs.Common.{sym, subst, rules}
use Rattle.nix_drv.specs.Order.{InOrder}
use Rattle.nix_drv.specs.Derivation.{Drv, derivation_form, drv_value}
use Rattle.nix_drv.proofs.Back.{same_parts}
use Rattle.nix_drv.proofs.derivation.Derivation.copy.Goals as goal

pub invariant_of-result : goal.invariant_of-result
invariant_of-result c =
    let P : Drv → Type 0 = λ d. InOrder derivation_form (drv_value d) in
    subst P (sym (same_parts c.in_ok-parts.parts c.self.inside.parts c.in_ok-parts.ensures))
    c.self.invariant

pub returns : goal.returns
returns c = search (rules, same_parts)
