use Rattle.std.proofs.Common.{None, ap, ◌∙◌, rules}
use Rattle.std.proofs.lemmas.Option.{MatchOption-at_some}
use Rattle.std.proofs.lemmas.Result.{err_from_is_err_and}
use Rattle.std.specs.List.{last_or}
use Rattle.valid_table.specs.Entries.{paths_registered}
use Rattle.valid_table.proofs.LineSteps.{stops_where}
use Rattle.valid_table.proofs.OutputLines.{outputs_more, outputs_stop}
use Rattle.valid_table.proofs.journal_text.reading.outputs_of.Goals as goal

pub returns-in_err-output-clause-left : goal.returns-in_err-output-clause-left
returns-in_err-output-clause-left c = search (rules, err_from_is_err_and, stops_where, outputs_stop)

pub outputs-preserved : goal.outputs-preserved
outputs-preserved c =
    outputs_more _ _ _ _ _ _ _ _ _
    c.outputs.invariant
    (c.last_path-before.ensures ∙ ap (λ os. last_or None (paths_registered os))
    c.deref.ensures.value)
    (MatchOption-at_some _ _ _ c.in-Some.is c.in_ok-output.ensures.ok) c.in_ok-push.ensures.items
