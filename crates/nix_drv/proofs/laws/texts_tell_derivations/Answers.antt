use Rattle.std.proofs.Common.{rules}
use Rattle.nix_drv.proofs.Back.{one_drv}
use Rattle.nix_drv.proofs.Derivations.{derivation_clear}
use Rattle.nix_drv.proofs.Texts.{no_text_within}
use Rattle.nix_drv.proofs.laws.texts_tell_derivations.Goals as goal

pub returns-clause-one_derivation : goal.returns-clause-one_derivation
returns-clause-one_derivation c = one_drv

pub returns-clause-none_within : goal.returns-clause-none_within
returns-clause-none_within c = search (rules, no_text_within, derivation_clear)
