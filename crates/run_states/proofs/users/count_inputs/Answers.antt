use Rattle.std.proofs.Common.{rules}
use Rattle.std.proofs.lemmas.List.Sums.{sum_by-set}
use Rattle.run_states.proofs.UserCounts.{counted}
use Rattle.run_states.proofs.users.count_inputs.Goals as goal

pub loop-input-preserved : goal.loop-input-preserved
loop-input-preserved c = search (rules, sum_by-set, counted)
