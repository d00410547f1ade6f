use Rattle.nix_names.proofs.Base32Laws.{one_stood}
use Rattle.nix_names.proofs.laws.text_stands_for_one.Goals as goal

pub returns : goal.returns
returns c = one_stood
