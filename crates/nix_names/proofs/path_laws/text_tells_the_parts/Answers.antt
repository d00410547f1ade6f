use Rattle.nix_names.proofs.PathTexts.{parts_from_text}
use Rattle.nix_names.proofs.path_laws.text_tells_the_parts.Goals as goal

pub returns : goal.returns
returns _ = parts_from_text
