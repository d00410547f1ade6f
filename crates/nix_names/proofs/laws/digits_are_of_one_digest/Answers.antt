use Rattle.nix_names.proofs.DigestTexts.{one_digest}
use Rattle.nix_names.proofs.laws.digits_are_of_one_digest.Goals as goal

pub returns : goal.returns
returns c = one_digest
