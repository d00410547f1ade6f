use Rattle.std.proofs.Common.{rules}
use Rattle.nix_drv.proofs.Runs.{fixed_ends}
use Rattle.nix_drv.proofs.reading.fixed_of.Goals as goal

pub returns-in_default : goal.returns-in_default
returns-in_default c = search (rules, fixed_ends)
