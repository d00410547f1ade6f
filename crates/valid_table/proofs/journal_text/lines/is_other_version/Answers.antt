use Rattle.std.proofs.Common.{Some, codes}
use Rattle.std.proofs.lemmas.Bool.Decides.{Decides-eqb}
use Rattle.std.proofs.lemmas.Slice.Eq.{strip_prefix_is}
use Rattle.valid_table.proofs.Versions.{by_number, no_line}
use Rattle.valid_table.proofs.journal_text.lines.is_other_version.Goals as goal

pub returns-in_default-split_at_byte : goal.returns-in_default-split_at_byte
returns-in_default-split_at_byte c =
    let begins = strip_prefix_is Decides-eqb c.args.bytes.now (codes "realiser-journal ")
    (Some c.in-Some.version) c.in-Some.ensures.cases in
    (λ is. cc is, λ is. absurd (no_line _ _ begins c.in_default-split_at_byte.ensures is))

pub returns : goal.returns
returns c =
    let begins = strip_prefix_is Decides-eqb c.args.bytes.now (codes "realiser-journal ")
    (Some c.in-Some.version) c.in-Some.ensures.cases in
    let both = by_number _ _ _ _ begins
    c.in-Some-split_at_byte.ensures.1 c.in-Some-split_at_byte.ensures.0 in
    (λ is. both.0 (c.is_other_number.ensures.0 is), λ is. c.is_other_number.ensures.1 (both.1 is))
