use Rattle.valid_view.proofs.Reached.{reached}
use Rattle.valid_view.proofs.reader.records.Goals as goal

pub returns-in-Ok-clause-gone : goal.returns-in-Ok-clause-gone
returns-in-Ok-clause-gone g c = reached _ _ c.records_in-answer.ensures.reached
