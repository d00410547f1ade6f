use Rattle.nix_names.proofs.Base32Laws.{fault_exact}
use Rattle.nix_names.proofs.laws.base32_fault_is_exact.Goals as goal

pub returns : goal.returns
returns c = fault_exact
