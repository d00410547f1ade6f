use Rattle.std.proofs.lemmas.Option.{MatchOption-at_some}
use Rattle.valid_table.proofs.ReferenceLines.{registration_found}
use Rattle.valid_table.proofs.journal_text.reading.registration_of.Goals as goal

pub returns-clause-ok : goal.returns-clause-ok
returns-clause-ok c =
    let found = MatchOption-at_some _ _ _ c.in-Some-2.is c.in_ok-path.ensures in
    registration_found _ _ _ _ _ _ _ _ _
    _ _ _ c.in-Some.ensures found.1 found.0
    c.in_ok-info.ensures.references c.in_ok-info.ensures.digest c.in_ok-info.ensures.nar
