use Rattle.nix_names.proofs.Base32Laws.{base32_of_stood, stood_of_base32}
use Rattle.nix_names.proofs.laws.base32_is_the_text.Goals as goal

pub returns : goal.returns
returns c = λ text bytes below. (base32_of_stood text bytes, stood_of_base32 text bytes below)
