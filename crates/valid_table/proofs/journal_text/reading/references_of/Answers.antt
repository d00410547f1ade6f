use Rattle.std.proofs.Common.{sym, ◌∙◌}
use Rattle.std.proofs.lemmas.Bool.{false≢true}
use Rattle.std.proofs.lemmas.Option.{MatchOption-at_none, MatchOption-at_some}
use Rattle.valid_table.proofs.ReferenceLines.{above_last, above_looked_up, bad_reference, low_reference, references_lead, references_more}
use Rattle.valid_table.proofs.journal_text.reading.references_of.Goals as goal

pub returns-in_default-2-clause-left : goal.returns-in_default-2-clause-left
returns-in_default-2-clause-left c = λ version output.
    references_lead _ _ _ _ _ _ _ c.references.invariant
    (bad_reference _ _ _ _ _
    _
    c.in-Some.ensures
    (MatchOption-at_none _ _ c.in_default-2.is c.in_ok-path.ensures))

pub returns-then-not-is_above-clause-left : goal.returns-then-not-is_above-clause-left
returns-then-not-is_above-clause-left c = λ version output.
    let unlike = c.if-not-is_above.true in
    references_lead _ _ _ _ _ _ _ c.references.invariant
    (low_reference _ _ _ _ _
    _
    _ _
    c.in-Some.ensures (MatchOption-at_some _ _ _ c.in-Some-2.is c.in_ok-path.ensures)
    (λ above. false≢true
    (sym unlike
    ∙ c.is_above.ensures.1
    (above_looked_up _ _ _ _ c.deref.ensures.value c.last.ensures.value above))))

pub references-preserved : goal.references-preserved
references-preserved c =
    references_more _ _ _ _ _ _ _
    _ c.references.invariant
    c.in-Some.ensures (MatchOption-at_some _ _ _ c.in-Some-2.is c.in_ok-path.ensures)
    (above_last _ _ _ _ c.deref.ensures.value c.last.ensures.value
    (c.is_above.ensures.0 c.if-not-is_above.false))
    c.in_ok-push.ensures.items
