use Rattle.valid_table.proofs.LinePaths.{no_path}
use Rattle.valid_table.proofs.journal_text.lines.path_of.Goals as goal

pub returns-in_default-clause-path : goal.returns-in_default-clause-path
returns-in_default-clause-path c = no_path _ _ _ c.in-Err.ensures c.in_default.not-NoMemory
