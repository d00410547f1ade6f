use Rattle.store_run.proofs.Starts.{setup_is_shared}
use Rattle.store_run.proofs.laws.setup_is_shared.Goals as goal

pub returns : goal.returns
returns c = setup_is_shared
