use Rattle.nix_names.proofs.DigestTexts.{one_text}
use Rattle.nix_names.proofs.laws.text_is_of_one_digest.Goals as goal

pub returns : goal.returns
returns c = one_text
