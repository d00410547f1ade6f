use Rattle.std.proofs.Common.{sym, ◌∙◌}
use Rattle.std.proofs.lemmas.Bool.{false≢true}
use Rattle.std.proofs.lemmas.Option.{MatchOption-at_some}
use Rattle.valid_table.proofs.LinePaths.{low_fields}
use Rattle.valid_table.proofs.journal_text.reading.fields_above.Goals as goal

pub returns : goal.returns
returns c =
    let unlike = c.if-is_above.false in
    low_fields _ _ _ _ _ _ _
    _
    (MatchOption-at_some _ _ _ c.in-Some.is c.in_ok-fields.ensures)
    (λ above. false≢true (sym unlike ∙ c.is_above.ensures.1 above))
