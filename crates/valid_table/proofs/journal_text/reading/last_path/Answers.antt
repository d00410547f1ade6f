use Rattle.std.proofs.Common.{rules}
use Rattle.valid_table.proofs.RisingPaths.{last_path_is}
use Rattle.valid_table.proofs.journal_text.reading.last_path.Goals as goal

pub returns-in-Some : goal.returns-in-Some
returns-in-Some c = search (rules, last_path_is)
