use Rattle.std.proofs.Common.{rules}
use Rattle.nix_drv.proofs.FormTexts.{on_ok, strings_written}
use Rattle.nix_drv.proofs.forms.write_strs_after.Goals as goal

pub returns : goal.returns
returns c = search (rules, on_ok, strings_written)
