use Rattle.std.proofs.Common.{rules}
use Rattle.nix_drv.proofs.FormTexts.{added_last}
use Rattle.nix_drv.proofs.ListTexts.{list_written}
use Rattle.nix_drv.proofs.element.write_list.Goals as goal

pub returns : goal.returns
returns g c = search (rules, added_last, list_written)
