use Rattle.std.proofs.Common.{◌≡◌, ◌∙◌, Some, None, ap, rules, sym, tests}
use Rattle.std.specs.Prelude.{find}
use Rattle.std.specs.Option.{option_map}
use Rattle.std.proofs.lemmas.Iterator.{YieldsList-from_slice}
use Rattle.std.proofs.lemmas.Iterator.Search.{find_from_yields_List}
use Rattle.valid_table.specs.declared.entry.Registration.{Registration}
use Rattle.builder_start.specs.Entries.{is_within}
use Rattle.builder_start.proofs.Finds.{root_told}
use Rattle.builder_start.proofs.rows.Rows.root_of.Goals as goal

pub returns-in-Some : goal.returns-in-Some
returns-in-Some c =
    let found : option_map (λ x. x.now) c.find.result
    ≡ find (λ (r : Registration). is_within r.path c.args.text.now) c.args.self.now
    = find_from_yields_List _ _ _ c.find.result c.find.ensures.ran
    (YieldsList-from_slice c.args.self.now cc) (λ x b q k. search (rules, tests)) in
    root_told c.args.self.now c.args.text.now (Some c.in-Some.row.now)
    (ap (option_map (λ x. x.now)) (sym c.in-Some.is) ∙ found)

pub returns-in-None : goal.returns-in-None
returns-in-None c =
    let found : option_map (λ x. x.now) c.find.result
    ≡ find (λ (r : Registration). is_within r.path c.args.text.now) c.args.self.now
    = find_from_yields_List _ _ _ c.find.result c.find.ensures.ran
    (YieldsList-from_slice c.args.self.now cc) (λ x b q k. search (rules, tests)) in
    root_told c.args.self.now c.args.text.now None
    (ap (option_map (λ x. x.now)) (sym c.in-None.is) ∙ found)
