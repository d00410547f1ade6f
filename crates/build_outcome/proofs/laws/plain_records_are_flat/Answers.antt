use Rattle.build_outcome.proofs.PlainRecords.{plain_records_are_flat}
use Rattle.build_outcome.proofs.laws.plain_records_are_flat.Goals as goal

pub returns : goal.returns
returns c = plain_records_are_flat
