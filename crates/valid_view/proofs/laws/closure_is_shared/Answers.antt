use Rattle.valid_view.proofs.SharedClosures.{closure_is_shared}
use Rattle.valid_view.proofs.laws.closure_is_shared.Goals as goal

pub returns : goal.returns
returns c = closure_is_shared
