use Rattle.std.proofs.Common.{All, subst, sym}
use Rattle.valid_table.specs.Valid.{IsValid}
use Rattle.valid_view.proofs.RecordsFound.{closure_valid}
use Rattle.valid_view.proofs.reader.records_in.Goals as goal

pub records-requires : goal.records-requires
records-requires c =
    subst (All (IsValid c.args.table.now.registrations)) (sym c.deref.ensures.value)
    (closure_valid c.args.table.now.registrations c.args.roots.now c.in-Ok.paths.items
    c.in-Ok.ensures.answer.1)
