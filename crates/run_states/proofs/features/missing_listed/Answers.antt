use Rattle.std.proofs.Common.{◌∙◌, String, not, rules, string_bytes, tests}
use Rattle.std.specs.declared.alloc.Global.{Global}
use Rattle.std.proofs.lemmas.Iterator.{YieldsList-from_slice}
use Rattle.std.proofs.lemmas.Iterator.Search.{position_from_yields_List}
use Rattle.run_states.specs.Systems.{offers}
use Rattle.run_states.proofs.Platforms.{position_mapped}
use Rattle.run_states.proofs.features.missing_listed.Goals as goal

pub returns : goal.returns
returns c =
    position_from_yields_List
    (λ (s : String Global). not (offers c.args.system.now (string_bytes s))) _ _
    c.position.result c.position.ensures.ran (YieldsList-from_slice c.args.features.now cc)
    (λ x b q k. search (rules, tests))
    ∙ position_mapped (λ feature. not (offers c.args.system.now feature))
    (λ (s : String Global). string_bytes s) c.args.features.now
