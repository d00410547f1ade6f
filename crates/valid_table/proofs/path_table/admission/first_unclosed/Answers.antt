use Rattle.std.proofs.Common.{rules}
use Rattle.valid_table.proofs.Blamed.{unclosed_at}
use Rattle.valid_table.proofs.EnteredPaths.{closed_all, closed_more}
use Rattle.valid_table.proofs.path_table.admission.first_unclosed.Goals as goal

pub returns-in-Some : goal.returns-in-Some
returns-in-Some c =
    unclosed_at _ _
    _ _ _
    _ c.loop-index.invariant c.loop-index-test.true
    c.index-registrations-index.is c.references-references.ensures.value c.in-Some.ensures

pub loop-index-preserved : goal.loop-index-preserved
loop-index-preserved c =
    closed_more _
    _ _ _
    _ c.loop-index.invariant c.loop-index-test.true
    c.index-registrations-index.is c.references-references.ensures.value c.in_default.ensures

pub returns : goal.returns
returns c = search (rules, closed_all)
