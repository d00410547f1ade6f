use Rattle.std.proofs.Common.{◌∙◌, subst, sym}
use Rattle.std.proofs.lemmas.Bool.{false≢true}
use Rattle.valid_table.specs.private.Readers.{StopsInText, StopsWhere}
use Rattle.valid_table.proofs.ReadAnswers.{bad_line_number, few_lines, read_as}
use Rattle.valid_table.proofs.journal.Journal.read.Goals as goal

pub of_entries-requires-clause-few : goal.of_entries-requires-clause-few
of_entries-requires-clause-few c =
    few_lines _ _ _
    (λ long. false≢true (sym c.if-is_too_long.false ∙ c.is_too_long.ensures.1 long))
    c.in-Ok.ensures.ok

pub returns-in-Ok : goal.returns-in-Ok
returns-in-Ok c =
    read_as _ _ _ _
    (λ long. false≢true (sym c.if-is_too_long.false ∙ c.is_too_long.ensures.1 long))
    (λ other. false≢true (sym c.if-is_other_version.false ∙ c.is_other_version.ensures.1 other))
    c.in-Ok.ensures.ok c.of_entries.ensures

pub returns-in-Err-Left : goal.returns-in-Err-Left
returns-in-Err-Left c = (
  λ long. false≢true (sym c.if-is_too_long.false ∙ c.is_too_long.ensures.1 long),
  λ other. false≢true (sym c.if-is_other_version.false ∙ c.is_other_version.ensures.1 other),
  bad_line_number _ _ _ _ c.in-Err-Left.ensures.is_dir
      (subst (StopsInText c.args.dir.now c.args.bytes.now) (sym c.in-Err-Left.left-is)
      (subst (StopsWhere (StopsInText c.args.dir.now c.args.bytes.now)) c.in-Err-Left.field-0-is
      c.in-Err-Left.ensures.left))
      c.line_number.ensures,
)
