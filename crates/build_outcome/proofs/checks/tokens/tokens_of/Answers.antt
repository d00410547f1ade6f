use Rattle.std.proofs.Common.{◌==◌, length, not, rules, tests}
use Rattle.std.proofs.lemmas.Iterator.Consumers.{YieldsList-at, YieldsList-from_filter, map_from_collect}
use Rattle.std.proofs.lemmas.Iterator.Splits.{YieldsList-from_slice_split}
use Rattle.build_outcome.specs.Tokens.{is_space}
use Rattle.build_outcome.proofs.checks.tokens.tokens_of.Goals as goal

pub returns : goal.returns
returns c =
    map_from_collect _ c.collect.ensures.ran
    (YieldsList-from_filter _ (λ t. not (length t == 0))
    (YieldsList-at c.filter.ensures.source
    (YieldsList-from_slice_split _ is_space c.args.text.now c.split.ensures.rest
    c.split.ensures.done c.split.ensures.closure (λ x b q k. search rules)))
    c.filter.ensures.closure (λ x b q k. search (rules, tests)))
