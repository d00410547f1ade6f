use Rattle.std.proofs.Common.{sym}
use Rattle.std.proofs.lemmas.Option.{MatchOption-at_some}
use Rattle.valid_table.proofs.LinePaths.{not_ahead, not_drv}
use Rattle.valid_table.proofs.journal_text.lines.deriver_line.Goals as goal

pub returns-then-not-is_drv_name : goal.returns-then-not-is_drv_name
returns-then-not-is_drv_name c = λ path rest.
    not_drv _ _ _ _ _ _ _
    (MatchOption-at_some _ _ _ c.in-Some.is c.in_ok-path.ensures) c.name.ensures.value
    (sym c.if-not-is_drv_name.ensures)

pub returns : goal.returns
returns c = λ path rest.
    not_ahead _ _ _ _ _ _
    (MatchOption-at_some _ _ _ c.in-Some.is c.in_ok-path.ensures) c.in-None.ensures
