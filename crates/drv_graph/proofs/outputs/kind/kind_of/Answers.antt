use Rattle.std.proofs.Common.{rules}
use Rattle.std.proofs.lemmas.List.{nil_from_length}
use Rattle.drv_graph.proofs.KindAnswers.{kind_from, mixed}
use Rattle.drv_graph.proofs.outputs.kind.kind_of.Goals as goal

pub returns-then-is_empty-clause-err : goal.returns-then-is_empty-clause-err
returns-then-is_empty-clause-err c = search (rules, nil_from_length)

pub returns-in-None-clause-err : goal.returns-in-None-clause-err
returns-in-None-clause-err c = search (rules, mixed)

pub returns-in-Some-clause-ok : goal.returns-in-Some-clause-ok
returns-in-Some-clause-ok c = search (rules, kind_from)

pub returns-in-Some-clause-err : goal.returns-in-Some-clause-err
returns-in-Some-clause-err c = search (rules, kind_from)
