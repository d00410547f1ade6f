use Rattle.std.proofs.Common.{◌≡◌, ◌∙◌, Some, None, ap, rules, sym, tests}
use Rattle.std.specs.Prelude.{find}
use Rattle.std.specs.Option.{option_map}
use Rattle.std.proofs.lemmas.Iterator.{YieldsList-from_slice}
use Rattle.std.proofs.lemmas.Iterator.Search.{find_from_yields_List}
use Rattle.nix_names.specs.Names.{same_bytes}
use Rattle.nix_drv.specs.declared.derivation.EnvEntry.{EnvEntry as EnvEntryStruct}
use Rattle.build_outcome.proofs.EnvValues.{value_told}
use Rattle.build_outcome.proofs.attributes.value_at.Goals as goal

pub returns-in-Some : goal.returns-in-Some
returns-in-Some c =
    let found : option_map (λ x. x.now) c.find.result
    ≡ find (λ (e : EnvEntryStruct). same_bytes e.key.items c.args.key.now) c.args.job.now.env.items
    = find_from_yields_List _ _ _ c.find.result c.find.ensures.ran
    (YieldsList-from_slice c.args.job.now.env.items cc) (λ x b q k. search (rules, tests)) in
    ap Some c.deref-in-Some.ensures.value
    ∙ value_told c.args.job.now c.args.key.now (Some c.in-Some.entry.now)
    (ap (option_map (λ x. x.now)) (sym c.in-Some.is) ∙ found)

pub returns-in-None : goal.returns-in-None
returns-in-None c =
    let found : option_map (λ x. x.now) c.find.result
    ≡ find (λ (e : EnvEntryStruct). same_bytes e.key.items c.args.key.now) c.args.job.now.env.items
    = find_from_yields_List _ _ _ c.find.result c.find.ensures.ran
    (YieldsList-from_slice c.args.job.now.env.items cc) (λ x b q k. search (rules, tests)) in
    value_told c.args.job.now c.args.key.now None
    (ap (option_map (λ x. x.now)) (sym c.in-None.is) ∙ found)
