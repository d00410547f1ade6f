use Rattle.std.proofs.lemmas.Option.{MatchOption-at_none}
use Rattle.valid_table.proofs.LinePaths.{no_newline, no_space, other_digest, other_path}
use Rattle.valid_table.proofs.journal_text.lines.fields_line.Goals as goal

pub returns-in_default : goal.returns-in_default
returns-in_default c = λ path digest nar rest. no_space _ _ _ _ _ _ _ c.in_default.ensures

pub returns-in_default-2 : goal.returns-in_default-2
returns-in_default-2 c = λ path digest nar rest is.
    other_path _ _ _ _ c.in-Some.fields.now
    c.in_ok-path.ensures.is_dir c.in-Some.ensures.0 c.in-Some.ensures.1 path
    digest nar rest is (MatchOption-at_none _ _ c.in_default-2.is c.in_ok-path.ensures.path)

pub returns-in_default-split_at_byte : goal.returns-in_default-split_at_byte
returns-in_default-split_at_byte c = λ path digest nar rest is.
    no_newline _ _ _ _ _
    c.in_ok-path.ensures.is_dir c.in-Some.ensures.0 c.in-Some.ensures.1 path
    digest nar rest is c.in_default-split_at_byte.ensures

pub returns-in-None : goal.returns-in-None
returns-in-None c = λ path digest nar rest is.
    other_digest _ _ _ _ _
    c.in_ok-path.ensures.is_dir c.in-Some.ensures.0 c.in-Some.ensures.1 path
    digest nar rest is c.in-Some-split_at_byte.known.now c.in-Some-split_at_byte.rest.now
    c.in-Some-split_at_byte.ensures.0 c.in-Some-split_at_byte.ensures.1 c.in-None.ensures
