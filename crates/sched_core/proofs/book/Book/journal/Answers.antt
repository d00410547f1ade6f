use Rattle.std.proofs.Common.{rules}
use Rattle.sched_core.proofs.book.Book.journal.Goals as goal

pub returns-clause-is_journal : goal.returns-clause-is_journal
returns-clause-is_journal g c = search rules
