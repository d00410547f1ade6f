use Rattle.std.proofs.Common.{◌∙◌, Some, ap, map, sym}
use Rattle.std.specs.Option.{option_map}
use Rattle.builder_start.specs.private.Shown.{shown_pair}
use Rattle.builder_start.proofs.GoodPairs.{bad_tokens}
use Rattle.builder_start.proofs.entries.files_of_tokens.Goals as goal

pub returns-in-Some-clause-bad : goal.returns-in-Some-clause-bad
returns-in-Some-clause-bad c =
    bad_tokens c.args.rows.now c.args.whole.now (map (λ t. t.now) c.args.tokens.now)
    (map shown_pair c.deref.result.now) c.files_of.result
    (sym c.in_ok-pairs.ensures ∙ ap (option_map (λ v. map shown_pair v.items)) c.in-Some.is
    ∙ ap (λ ps. Some (map shown_pair ps)) (sym c.deref.ensures.value))
    c.files_of.ensures.bad
