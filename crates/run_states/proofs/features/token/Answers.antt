use Rattle.std.proofs.Common.{◌∙◌, ◌==◌, ap, length, not, rules, tests}
use Rattle.std.specs.Prelude.{slice_get}
use Rattle.std.proofs.lemmas.Iterator.Consumers.{YieldsList-at, YieldsList-from_filter, nth_from_yields_List}
use Rattle.std.proofs.lemmas.Iterator.Splits.{YieldsList-from_slice_split}
use Rattle.nix_names.specs.Bytes.{Bytes}
use Rattle.build_outcome.specs.Tokens.{is_space, tokens}
use Rattle.run_states.proofs.features.token.Goals as goal

pub returns : goal.returns
returns c =
    nth_from_yields_List c.nth.result _ c.args.number c.nth.ensures.ran
    (YieldsList-from_filter _ (λ (token : Bytes). not (length token == 0))
    (YieldsList-at c.filter.ensures.source
    (YieldsList-from_slice_split _ is_space c.features_text.result.now c.split.ensures.rest
    c.split.ensures.done c.split.ensures.closure (λ x b q k. search (rules, tests))))
    c.filter.ensures.closure (λ x b q k. search (rules, tests)))
    ∙ ap (λ text. slice_get (tokens text) c.args.number) c.features_text.ensures
