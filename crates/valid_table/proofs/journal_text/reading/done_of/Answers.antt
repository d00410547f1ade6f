use Rattle.std.proofs.lemmas.Option.{MatchOption-at_none, MatchOption-at_some}
use Rattle.std.proofs.lemmas.Result.{err_from_is_err_and}
use Rattle.valid_table.proofs.EntryLines.{deriver_stops, done_found, done_stops}
use Rattle.valid_table.proofs.LineSteps.{stops_where}
use Rattle.valid_table.proofs.journal_text.reading.done_of.Goals as goal

pub returns-in_default-2-clause-left : goal.returns-in_default-2-clause-left
returns-in_default-2-clause-left c = λ from begins.
    deriver_stops _ _ _ _ _ c.in-Some.ensures
    (MatchOption-at_none _ _ c.in_default-2.is c.in_ok-deriver.ensures) begins

pub returns-in_err-outputs-clause-left : goal.returns-in_err-outputs-clause-left
returns-in_err-outputs-clause-left c =
    let p = err_from_is_err_and c.from_residual-in_err-outputs.result
    c.from_residual-in_err-outputs.ensures.1 in
    rw (p.1, p.2) (stops_where _ _
    (λ left h from begins. done_stops _ _ from _ c.in-Some.fields.now c.in-Some-2.deriver
    c.in-Some-2.rest.now left c.in-Some.ensures
    (MatchOption-at_some _ _ _ c.in-Some-2.is c.in_ok-deriver.ensures) h begins)
    c.in_err-outputs.field-0.0 c.in_err-outputs.ensures.left)

pub returns-clause-ok : goal.returns-clause-ok
returns-clause-ok c =
    done_found _ _ _ _ _ _ _
    _ _
    c.in-Some.ensures (MatchOption-at_some _ _ _ c.in-Some-2.is c.in_ok-deriver.ensures)
    c.in_ok-outputs.ensures.ok c.new.ensures
