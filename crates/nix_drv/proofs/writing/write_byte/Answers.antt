use Rattle.std.proofs.Common.{rules}
use Rattle.nix_drv.proofs.Spellings.{byte_added}
use Rattle.nix_drv.proofs.writing.write_byte.Goals as goal

pub returns-in-Some : goal.returns-in-Some
returns-in-Some c = search (rules, byte_added)

pub returns-in-None : goal.returns-in-None
returns-in-None c = search (rules, byte_added)
