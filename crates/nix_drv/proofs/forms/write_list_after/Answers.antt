use Rattle.std.proofs.Common.{rules}
use Rattle.nix_drv.proofs.FormTexts.{after_mark, on_ok}
use Rattle.nix_drv.proofs.forms.write_list_after.Goals as goal

pub returns : goal.returns
returns g c = search (rules, on_ok, after_mark)
