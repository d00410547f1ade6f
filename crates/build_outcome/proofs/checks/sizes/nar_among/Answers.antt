use Rattle.std.proofs.Common.{◌∙◌, ap, rules, sym}
use Rattle.std.proofs.lemmas.Fn.{always_returns_same}
use Rattle.valid_table.specs.declared.entry.Registration.{Registration}
use Rattle.valid_table.proofs.Searched.{compared}
use Rattle.build_outcome.proofs.Sizes.{nar_found, nar_missing}
use Rattle.build_outcome.proofs.checks.sizes.nar_among.Goals as goal

pub returns-in-Ok : goal.returns-in-Ok
returns-in-Ok c =
    let path = c.args.path.now in
    c.nar.ensures ∙ ap (λ (r : Registration). r.info.nar) (sym c.index-records-index.is)
    ∙ sym (nar_found c.args.records.now path c.in-Ok.index c.index-records-index.result
    c.requires c.in-Ok.ensures.bound
    (c.in-Ok.ensures.position (compared path)
    (always_returns_same _ _ _ (λ a r f k. (search rules, search rules))))
    c.index-records-index.is)

pub returns-in-Err : goal.returns-in-Err
returns-in-Err c =
    let path = c.args.path.now in
    sym (nar_missing c.args.records.now path c.in-Err.field-0 c.requires c.in-Err.ensures.bound
    (c.in-Err.ensures.position (compared path)
    (always_returns_same _ _ _ (λ a r f k. (search rules, search rules)))))
