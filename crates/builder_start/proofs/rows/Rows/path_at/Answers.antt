use Rattle.std.proofs.Common.{◌≡◌, ◌∙◌, ap, rules, sym, tests}
use Rattle.std.specs.Prelude.{find}
use Rattle.std.specs.Option.{option_map}
use Rattle.std.proofs.lemmas.Iterator.{YieldsList-from_slice}
use Rattle.std.proofs.lemmas.Iterator.Search.{find_from_yields_List}
use Rattle.valid_table.specs.declared.entry.Registration.{Registration}
use Rattle.nix_names.specs.Names.{same_bytes}
use Rattle.builder_start.proofs.Finds.{path_missing, path_told}
use Rattle.builder_start.proofs.rows.Rows.path_at.Goals as goal

pub returns-in-Some : goal.returns-in-Some
returns-in-Some c =
    let found : option_map (λ x. x.now) c.find.result
    ≡ find (λ (r : Registration). same_bytes r.path c.args.text.now) c.args.self.now
    = find_from_yields_List _ _ _ c.find.result c.find.ensures.ran
    (YieldsList-from_slice c.args.self.now cc) (λ x b q k. search (rules, tests)) in
    path_told c.args.self.now c.args.text.now c.in-Some.row.now
    (sym found ∙ ap (option_map (λ x. x.now)) c.in-Some.is)

pub returns-in-None : goal.returns-in-None
returns-in-None c =
    let found : option_map (λ x. x.now) c.find.result
    ≡ find (λ (r : Registration). same_bytes r.path c.args.text.now) c.args.self.now
    = find_from_yields_List _ _ _ c.find.result c.find.ensures.ran
    (YieldsList-from_slice c.args.self.now cc) (λ x b q k. search (rules, tests)) in
    path_missing c.args.self.now c.args.text.now
    (sym found ∙ ap (option_map (λ x. x.now)) c.in-None.is)
