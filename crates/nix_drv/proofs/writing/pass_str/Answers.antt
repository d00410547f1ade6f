use Rattle.std.proofs.Common.{rules}
use Rattle.nix_drv.proofs.Spellings.{string_end}
use Rattle.nix_drv.proofs.writing.pass_str.Goals as goal

pub returns : goal.returns
returns c = search (rules, string_end)
