use Rattle.std.proofs.Common.{◌∙◌, sym, rules}
use Rattle.std.proofs.lemmas.Bool.{false≢true}
use Rattle.valid_table.proofs.EnteredPaths.{prefix_all, new_more}
use Rattle.valid_table.proofs.path_table.admission.new_prefix_len.Goals as goal

pub loop-count-preserved : goal.loop-count-preserved
loop-count-preserved c =
    new_more _ _
    _ _ c.loop-count.invariant
    c.loop-count-test.true c.index-registrations-count.is
    (λ there. false≢true (sym c.if-has_row.false ∙ c.has_row.ensures.1 there))

pub returns : goal.returns
returns c = search (rules, prefix_all)
