use Rattle.valid_table.proofs.NarTexts.{no_archive, no_digest}
use Rattle.valid_table.proofs.journal_text.known.known_of_three.Goals as goal

pub returns-in_default-digest_of : goal.returns-in_default-digest_of
returns-in_default-digest_of c =
    no_digest _ c.in-Some.digest.now c.in-Some.nar.now c.in-Some.ensures.0 c.in-Some.ensures.1
    c.in_default-digest_of.ensures

pub returns-in-None : goal.returns-in-None
returns-in-None c =
    no_archive _ c.in-Some.digest.now c.in-Some.nar.now c.in-Some.ensures.0 c.in-Some.ensures.1
    c.in-None.ensures
