use Rattle.nix_drv.proofs.Back.{reads_back}
use Rattle.nix_drv.proofs.laws.written_texts_are_read_back.Goals as goal

pub returns : goal.returns
returns c = reads_back
