use Rattle.std.proofs.Common.{rules}
use Rattle.nix_drv.proofs.ListTexts.{others_written}
use Rattle.nix_drv.proofs.element.write_others.Goals as goal

pub returns : goal.returns
returns g c = search (rules, others_written)
