use Rattle.std.proofs.lemmas.Option.{MatchOption-at_none}
use Rattle.valid_table.proofs.LinePaths.{no_path_line, other_path_line}
use Rattle.valid_table.proofs.journal_text.lines.path_line.Goals as goal

pub returns-in_default : goal.returns-in_default
returns-in_default c = λ path rest. no_path_line _ _ _ _ c.in_default.ensures

pub returns-in-None : goal.returns-in-None
returns-in-None c = λ path rest.
    other_path_line _ _ _ _ _ _ c.in_ok-path.ensures.is_dir
    c.in-Some.ensures.0 c.in-Some.ensures.1
    (MatchOption-at_none _ _ c.in-None.is c.in_ok-path.ensures.path)
