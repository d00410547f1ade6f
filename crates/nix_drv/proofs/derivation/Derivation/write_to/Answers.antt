use Rattle.std.proofs.Common.{subst, rules}
use Rattle.nix_drv.specs.Grammar.{text}
use Rattle.nix_drv.specs.Order.{InOrder}
use Rattle.nix_drv.specs.Derivation.{Drv, derivation_form, drv_value}
use Rattle.nix_drv.proofs.FormTexts.{on_ok}
use Rattle.nix_drv.proofs.derivation.Derivation.write_to.Goals as goal

pub returns-clause-ok : goal.returns-clause-ok
returns-clause-ok c = search (rules, on_ok, text)

pub returns-clause-in_order : goal.returns-clause-in_order
returns-clause-in_order c = let P : Drv → Type 0 = λ d. InOrder derivation_form (drv_value d)
    in subst P c.self.view_is c.self.invariant
