use Rattle.std.proofs.Common.{◌∙◌, subst, sym}
use Rattle.valid_table.specs.Valid.{AreReferencesValid}
use Rattle.builder_start.proofs.rows.Rows.new.Goals as goal

pub table_of-requires-clause-closed : goal.table_of-requires-clause-closed
table_of-requires-clause-closed c =
    subst AreReferencesValid (sym (c.in_ok-copy_rows.ensures ∙ c.deref.ensures.value))
    c.requires.closed
