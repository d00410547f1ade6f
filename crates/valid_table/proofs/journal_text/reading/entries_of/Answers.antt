use Rattle.std.proofs.Common.{sym, rules}
use Rattle.std.proofs.lemmas.Option.{MatchOption-at_some}
use Rattle.std.proofs.lemmas.Result.{err_from_is_err_and}
use Rattle.valid_table.proofs.EntriesRead.{entries_more, text_read, text_stops, version_begins, version_read}
use Rattle.valid_table.proofs.LineSteps.{stops_where}
use Rattle.valid_table.proofs.journal_text.reading.entries_of.Goals as goal

pub entries-init : goal.entries-init
entries-init c =
    version_read _ _ _ _ _
    (MatchOption-at_some _ _ _ c.in-Some.is c.version_of.ensures) c.new-entries.ensures.items

pub entries-preserved : goal.entries-preserved
entries-preserved c = entries_more _ _ _ _ _ _ _
    _ c.entries.invariant c.in_ok-entry.ensures.ok c.in_ok-push.ensures.items

pub returns-in_err-entry-clause-left : goal.returns-in_err-entry-clause-left
returns-in_err-entry-clause-left c =
    let p = err_from_is_err_and c.from_residual.result c.from_residual.ensures.1 in
    rw (p.1, p.2)
    (stops_where _ _ (λ left. text_stops _ _ _ _ _ left c.entries.invariant) _
    c.in_err-entry.ensures.left)

pub returns-in_err-entry-clause-memory : goal.returns-in_err-entry-clause-memory
returns-in_err-entry-clause-memory c = search (rules, version_begins)

pub returns-in_err-push-clause-memory : goal.returns-in_err-push-clause-memory
returns-in_err-push-clause-memory c = search (rules, version_begins)

pub returns-clause-ok : goal.returns-clause-ok
returns-clause-ok c = text_read _ _ _ _ _ c.entries.invariant (sym c.entries-test.ensures)
