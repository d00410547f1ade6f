use Rattle.valid_table.proofs.VersionLaws.{written_journals_are_read_again}
use Rattle.valid_table.proofs.laws.written_journals_are_read_again.Goals as goal

pub returns : goal.returns
returns c = written_journals_are_read_again
