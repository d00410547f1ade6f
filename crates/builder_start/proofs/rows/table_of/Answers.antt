use Rattle.std.proofs.Common.{◌≡◌, ◌++◌, [], List, All, ap, subst, sym}
use Rattle.valid_table.specs.Valid.{AreReferencesValid, IsValid, references_of}
use Rattle.valid_table.specs.declared.entry.Registration.{Registration}
use Rattle.builder_start.proofs.rows.table_of.Goals as goal

pub register_reserved-requires-clause-closed : goal.register_reserved-requires-clause-closed
register_reserved-requires-clause-closed c =
    let rows : List Registration = c.new.result in
    let empty : c.reserve.new.self.registrations ≡ [] = cc in
    subst (λ (rs : List Registration). All (IsValid rs) (references_of rows))
    (sym (ap (λ (rs : List Registration). rs ++ rows) empty))
    (subst AreReferencesValid (sym c.new.ensures) c.requires.closed)
