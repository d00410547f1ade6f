use Rattle.nix_names.proofs.MethodTexts.{one_method_text}
use Rattle.nix_names.proofs.laws.text_is_of_one_method_digest.Goals as goal

pub returns : goal.returns
returns c = one_method_text
