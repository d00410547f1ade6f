use Rattle.std.proofs.Common.{sym, refl, rules}
use Rattle.nix_drv.proofs.Derivations.{ordered, disordered}
use Rattle.nix_drv.proofs.derivation.Derivation.in_order.Goals as goal

pub invariant_of-result : goal.invariant_of-result
invariant_of-result c = ordered c.args.parts _ (sym c.in-Ok.ensures)

pub returns-in-Ok : goal.returns-in-Ok
returns-in-Ok c = (refl, ordered c.args.parts _ (sym c.in-Ok.ensures))

pub returns-in-Err : goal.returns-in-Err
returns-in-Err c = search (rules, disordered)
