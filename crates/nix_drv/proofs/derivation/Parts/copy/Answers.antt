use Rattle.std.proofs.Common.{rules}
use Rattle.nix_drv.proofs.Back.{copied_parts}
use Rattle.nix_drv.proofs.derivation.Parts.copy.Goals as goal

pub returns : goal.returns
returns c = search (rules, copied_parts)
