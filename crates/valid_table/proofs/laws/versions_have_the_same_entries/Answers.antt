use Rattle.valid_table.proofs.VersionLaws.{versions_have_the_same_entries}
use Rattle.valid_table.proofs.laws.versions_have_the_same_entries.Goals as goal

pub returns : goal.returns
returns c = versions_have_the_same_entries
