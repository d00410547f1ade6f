use Rattle.std.proofs.Common.{rules}
use Rattle.drv_graph.proofs.Ends.{err_is}
use Rattle.drv_graph.proofs.Reading.{advances_made, descends_made, input_read}
use Rattle.drv_graph.proofs.walks.walk.step.Goals as goal

pub returns-in_err-push-in-Done-clause-stepping : goal.returns-in_err-push-in-Done-clause-stepping
returns-in_err-push-in-Done-clause-stepping g c = search (rules, err_is)

pub returns-in_ok-push-in-Done-clause-stepping : goal.returns-in_ok-push-in-Done-clause-stepping
returns-in_ok-push-in-Done-clause-stepping g c = search (rules, advances_made, input_read)

pub returns-in-New-clause-stepping : goal.returns-in-New-clause-stepping
returns-in-New-clause-stepping g c = search (rules, descends_made, input_read)
