use Rattle.std.proofs.Common.{◌∙◌, ap, map, rules, tests}
use Rattle.std.proofs.lemmas.Iterator.{YieldsList-from_slice}
use Rattle.std.proofs.lemmas.Iterator.Search.{any_from_yields_List}
use Rattle.nix_drv.specs.Parts.{bytes_of}
use Rattle.run_states.specs.Systems.{Platform}
use Rattle.run_states.proofs.Platforms.{offer_told}
use Rattle.run_states.proofs.system.System.offers.Goals as goal

pub returns : goal.returns
returns c =
    offer_told c.args.self.now c.args.feature.now c.deref.result.now c.any.result
    (ap (map bytes_of) c.deref.ensures.value ∙ ap (λ (s : Platform). s.features) c.self.view_is)
    (any_from_yields_List _ _ _ c.any.result c.any.ensures.ran
    (YieldsList-from_slice c.deref.result.now cc) (λ x b q k. search (rules, tests)))
