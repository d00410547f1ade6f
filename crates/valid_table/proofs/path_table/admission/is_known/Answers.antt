use Rattle.std.proofs.Common.{sym, ◌∙◌, ⊎_elim}
use Rattle.std.proofs.lemmas.Bool.{false≢true}
use Rattle.valid_table.specs.Tables.{registrations_of}
use Rattle.valid_table.proofs.TakenIn.{valid_by_some, valid_cases}
use Rattle.valid_table.proofs.path_table.admission.is_known.Goals as goal

pub returns-else-has_row : goal.returns-else-has_row
returns-else-has_row c =
    let known = registrations_of c.args.rows.now.entries in
    let some = c.args.registrations.now in
    let path = c.args.path.now in (
      λ yes. valid_by_some _ _ _ (c.is_registered.ensures.0 yes),
      λ valid. ⊎_elim
          (λ has. absurd (false≢true (sym c.if-has_row.false ∙ c.has_row.ensures.1 has)))
          (λ own. c.is_registered.ensures.1 own)
          (valid_cases _ _ _ valid),
    )
