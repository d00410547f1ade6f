use Rattle.std.proofs.Common.{rules}
use Rattle.nix_drv.proofs.EqualDerivations.{seen_alike}
use Rattle.run_states.proofs.system.same_texts.Goals as goal

pub returns : goal.returns
returns c = search (rules, seen_alike)
