use Rattle.std.proofs.Common.{subst, rules}
use Rattle.sched_core.specs.Books.{BuildsOver, Ledger}
use Rattle.sched_core.proofs.book.Book.tell.Goals as goal

pub returns-clause-seeds : goal.returns-clause-seeds
returns-clause-seeds g c = subst (λ (l : Ledger). BuildsOver l.run l.history l.shown)
    c.self.view_is c.self.invariant.builds

pub returns-clause-is_journal : goal.returns-clause-is_journal
returns-clause-is_journal g c = search rules
