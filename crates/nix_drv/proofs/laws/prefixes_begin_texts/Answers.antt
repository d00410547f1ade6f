use Rattle.nix_drv.proofs.Prefixes.{prefixes_begin_texts}
use Rattle.nix_drv.proofs.laws.prefixes_begin_texts.Goals as goal

pub returns : goal.returns
returns c = prefixes_begin_texts
