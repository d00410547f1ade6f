use Rattle.valid_view.proofs.SharedRecords.{records_are_shared}
use Rattle.valid_view.proofs.laws.records_are_shared.Goals as goal

pub returns : goal.returns
returns c = records_are_shared
