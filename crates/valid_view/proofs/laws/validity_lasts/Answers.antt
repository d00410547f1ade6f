use Rattle.valid_view.proofs.SharedClosures.{validity_lasts}
use Rattle.valid_view.proofs.laws.validity_lasts.Goals as goal

pub returns : goal.returns
returns c = validity_lasts
